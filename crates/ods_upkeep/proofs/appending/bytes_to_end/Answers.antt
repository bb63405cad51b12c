use Rattle.std.proofs.Common.{sym}
use Rattle.ods_upkeep.proofs.appending.bytes_to_end.Goals as goal

pub returns-clause-ok : goal.returns-clause-ok
returns-clause-ok c = rw (sym c.disk-disk.ensures.image, sym c.disk-disk.ensures.layout) c.end_bytes_on.ensures.ok

pub returns-clause-err : goal.returns-clause-err
returns-clause-err c = rw (sym c.disk-disk.ensures.image, sym c.disk-disk.ensures.layout) c.end_bytes_on.ensures.err
