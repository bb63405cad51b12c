use Rattle.std.proofs.Common.{sym}
use Rattle.ods_upkeep.proofs.sources.sources.Goals as goal

pub returns : goal.returns
returns c = rw (sym c.disk-disk.ensures.image, sym c.disk-disk.ensures.layout) c.sources_on.ensures
