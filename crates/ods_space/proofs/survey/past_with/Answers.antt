use Rattle.std.proofs.Common.{ℕ, ◌+◌, ◌-◌, Option, refl, subst}
use Rattle.ods_space.specs.Walk.{IsPast}
use Rattle.ods_space.proofs.Surveys.{past_here, past_there, none_past}
use Rattle.ods_space.proofs.survey.past_with.Goals as goal

pub returns-in-Some : goal.returns-in-Some
returns-in-Some c blocks before = past_there blocks c.args.run.now c.args.len c.in-Some.lbn (let P : Option ℕ → Type 0 = λ o. IsPast c.args.len blocks o in subst P c.in-Some.is before)

pub returns-then-len-end : goal.returns-then-len-end
returns-then-len-end c blocks before = let r = c.args.run.now in past_here blocks r c.args.len (r.lbn + r.count - 1) c.requires.some refl c.if-len-end.true

pub returns-else-len-end : goal.returns-else-len-end
returns-else-len-end c blocks before = none_past blocks c.args.run.now c.args.len c.if-len-end.false (let P : Option ℕ → Type 0 = λ o. IsPast c.args.len blocks o in subst P c.in-None.is before)
