use Rattle.std.proofs.Common.{sym}
use Rattle.ods_shell.proofs.mounted.lines_of.Goals as goal

pub returns-clause-none : goal.returns-clause-none
returns-clause-none c = rw (sym c.disk-disk.ensures.image, sym c.disk-disk.ensures.layout) c.lines_of.ensures.none
