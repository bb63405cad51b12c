use Rattle.std.proofs.Common.{sym}
use Rattle.ods_shell.proofs.mounted.open_contents.Goals as goal

pub returns-clause-err : goal.returns-clause-err
returns-clause-err c = rw (sym c.disk-disk.ensures.image, sym c.disk-disk.ensures.layout) c.open_contents.ensures.err
