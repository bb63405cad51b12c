use Rattle.fs_host.proofs.ProcCuts.{back_is, none_after}
use Rattle.fs_host.proofs.proc_texts.after_blank.Goals as goal

pub returns-then-place-text : goal.returns-then-place-text
returns-then-place-text c = none_after c.args.text.now c.blank_of-place.result c.blank_of-place.ensures c.if-place-text.true

pub returns : goal.returns
returns c = back_is c.args.text.now c.blank_of-place.result c.blank_of-place.ensures
