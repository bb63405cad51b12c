use Rattle.std.proofs.Common.{sym}
use Rattle.ods_shell.proofs.mounted.find_names.Goals as goal

pub returns-clause-named : goal.returns-clause-named
returns-clause-named c = rw (sym c.disk-disk.ensures.image, sym c.disk-disk.ensures.layout) c.find_names.ensures.named
