use Rattle.std.proofs.Common.{sym}
use Rattle.ods_shell.proofs.mounted.find_open.Goals as goal

pub returns-clause-directories : goal.returns-clause-directories
returns-clause-directories c = rw (sym c.disk-disk.ensures.image, sym c.disk-disk.ensures.layout) c.find_open.ensures.directories
