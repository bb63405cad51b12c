use Rattle.std.proofs.Common.{inl, inr, refl}
use Rattle.ods_shell.proofs.Dots.{dot_behind}
use Rattle.ods_shell.proofs.naming.without_dot.Goals as goal

pub returns-in-Some : goal.returns-in-Some
returns-in-Some c = inl (dot_behind c.args.text.now c.in-Some.front.now c.in-Some.ensures.cases)

pub returns-in-None : goal.returns-in-None
unfolding lib.Utf8.encode
returns-in-None c = inr (refl, c.in-None.ensures.cases)
