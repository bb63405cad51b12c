use Rattle.std.specs.Prelude.{nat_le}
use Rattle.ods_text.proofs.Firsts.{front_is}
use Rattle.ods_walk.proofs.Directories.{before_end}
use Rattle.ods_walk.proofs.ordering.up_to_end.Goals as goal

pub returns-clause-front : goal.returns-clause-front
returns-clause-front c = front_is (λ lbn. nat_le c.args.len lbn) c.args.lbns.now c.place_past.result c.place_past.ensures

pub returns-clause-inside : goal.returns-clause-inside
returns-clause-inside c = before_end c.args.len c.args.lbns.now c.place_past.result c.place_past.ensures
