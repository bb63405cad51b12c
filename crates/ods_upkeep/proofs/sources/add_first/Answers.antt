use Rattle.std.proofs.Common.{List, inl, inr, refl}
use Rattle.ods_shell.specs.declared.found.Found.{Found}
use Rattle.ods_upkeep.proofs.Again.{added_again, added_new}
use Rattle.ods_upkeep.proofs.sources.add_first.Goals as goal

pub returns-in_ok-push : goal.returns-in_ok-push
returns-in_ok-push c = λ before has.
    let told = added_new c.args.seen.now c.insert.new.self c.key.result c.args.found c.in_ok-insert.field-0 c.key.ensures c.in_ok-insert.ensures.updates c.in_ok-insert.ensures.added c.if-branch.true before has in
    (told.0, inr (told.1, c.in_ok-push.ensures.items))

pub returns-else-branch : goal.returns-else-branch
returns-else-branch c = λ before has.
    let told = added_again c.args.seen.now c.insert.new.self c.key.result c.args.found c.in_ok-insert.field-0 c.key.ensures c.in_ok-insert.ensures.updates c.in_ok-insert.ensures.added c.if-branch.false before has in
    (told.0, inl (told.1, refl {A = List Found} {a = c.args.once.now.items}))
