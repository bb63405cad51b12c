use Rattle.fs_host.proofs.ProcCuts.{front_is}
use Rattle.fs_host.proofs.proc_texts.before_blank.Goals as goal

pub returns : goal.returns
returns c = front_is c.args.text.now c.blank_of.result c.blank_of.ensures
