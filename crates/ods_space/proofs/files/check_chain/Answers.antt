use Rattle.std.proofs.Common.{ℕ, Option, length, subst}
use Rattle.ods_space.specs.Walk.{IsPast}
use Rattle.ods_space.proofs.Surveyed.{has_of_chain}
use Rattle.ods_space.proofs.files.check_chain.Goals as goal

pub returns-in-Some-past-clause-err : goal.returns-in-Some-past-clause-err
returns-in-Some-past-clause-err c =
    let found = c.in-Some.ensures.some in
    let P : Option ℕ → Type 0 = λ o. IsPast (length c.args.disk.now.image.now) found.1 o in
    let past = subst P c.in-Some-past.is found.3.past in
    (found.0, found.1, found.2, past.0, past.1)

pub returns-in-None-clause-ok : goal.returns-in-None-clause-ok
returns-in-None-clause-ok c =
    let found = c.in-Some.ensures.some in
    let P : Option ℕ → Type 0 = λ o. IsPast (length c.args.disk.now.image.now) found.1 o in
    (found.1, has_of_chain c.args.disk.now.image.now c.args.disk.now.layout.now c.args.number found.0 found.1 c.requires found.2 (subst P c.in-None.is found.3.past))
