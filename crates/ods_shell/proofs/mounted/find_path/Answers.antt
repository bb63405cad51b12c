use Rattle.std.proofs.Common.{sym}
use Rattle.ods_shell.proofs.mounted.find_path.Goals as goal

pub returns-clause-named : goal.returns-clause-named
returns-clause-named c = rw (sym c.disk-disk.ensures.image, sym c.disk-disk.ensures.layout) c.find_path.ensures.named

pub returns-clause-err : goal.returns-clause-err
returns-clause-err c = rw (sym c.disk-disk.ensures.image, sym c.disk-disk.ensures.layout) c.find_path.ensures.err
