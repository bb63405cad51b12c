use Rattle.ods_remains.proofs.NearestKeys.{nearest_of}
use Rattle.ods_remains.proofs.nearest.nearest.Goals as goal

pub returns : goal.returns
returns c =
    nearest_of c.args.keys.now c.requires.ascending c.args.place c.args.lbn c.count_below-at.result c.requires.low c.count_below-at.ensures.point c.count_below-at.ensures.bound
    c.lbn_before.result c.lbn_at.result c.closer.result c.lbn_before.ensures c.lbn_at.ensures c.closer.ensures
