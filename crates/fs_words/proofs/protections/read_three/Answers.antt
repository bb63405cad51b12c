use Rattle.fs_words.specs.Protections.{AreRights, AreTwo}
use Rattle.fs_words.proofs.OneProtection.{none_behind}
use Rattle.fs_words.proofs.protections.read_three.Goals as goal

pub returns-in_err-rest : goal.returns-in_err-rest
returns-in_err-rest c = rw c.from_residual-in_err-rest.ensures (none_behind AreRights AreTwo c.args.text.now c.in_ok-first.first.now c.in_ok-first.others.now c.in_ok-first.ensures.cut c.in_err-rest.ensures)
