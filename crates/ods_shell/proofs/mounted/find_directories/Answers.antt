use Rattle.std.proofs.Common.{sym}
use Rattle.ods_shell.proofs.mounted.find_directories.Goals as goal

pub returns : goal.returns
returns c = rw (sym c.disk-disk.ensures.image, sym c.disk-disk.ensures.layout) c.find_directories.ensures
