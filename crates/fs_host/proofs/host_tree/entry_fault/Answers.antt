use Rattle.fs_host.proofs.MayEnd.{reason_given}
use Rattle.fs_host.proofs.host_tree.entry_fault.Goals as goal

pub returns-in_default : goal.returns-in_default
returns-in_default c = reason_given c.args.error.now c.of.result c.of.ensures
