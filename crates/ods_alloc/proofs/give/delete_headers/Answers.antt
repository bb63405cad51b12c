use Rattle.std.proofs.Common.{◌≡◌, ◌++◌, ◌∷◌, [], List, ℕ, Some, get_or, take, sym, subst, ◌∙◌}
use Rattle.std.proofs.lemmas.List.{take_more, take_all}
use Rattle.ods_space.specs.Layout.{place_of}
use Rattle.ods_space.specs.Draft.{Changes, applied}
use Rattle.ods_alloc.specs.Marks.{Deletes}
use Rattle.ods_alloc.proofs.Places.{place_inside}
use Rattle.ods_alloc.proofs.Giving.{none_deleted, one_deleted, passed_by}
use Rattle.ods_alloc.proofs.give.delete_headers.Goals as goal
use Rattle.ods_alloc.proofs.give.delete_headers.Goals.{in-Some+in_ok-set, in_default}

pub loop-number-init : goal.loop-number-init
loop-number-init c =
    let I = c.args.disk.now.image.now in
    let P : Changes → Type 0 = λ d. Deletes (applied I c.args.old.now) c.args.disk.now.layout.now [] (applied I d) in
    subst P (sym c.requires.same) (none_deleted (applied I c.args.old.now) c.args.disk.now.layout.now)

pub loop-number-preserved : goal.loop-number-preserved
loop-number-preserved c =
    let I = c.args.disk.now.image.now in
    let L = c.args.disk.now.layout.now in
    let old = c.args.old.now in
    let k = c.loop-number.number-index in
    let numbers = c.args.numbers.now in
    let xs = take k numbers in
    let x = get_or numbers k 0 in
    let P : List ℕ → Type 0 = λ ns. Deletes (applied I old) L ns (applied I c.match-place.draft) in
    let Q : Changes → Type 0 = λ d. Deletes (applied I old) L (xs ++ x ∷ []) (applied I d) in
    subst P (sym (take_more numbers k 0 c.loop-number-test.true)) (elim c.match-place.branch [
      | in-Some+in_ok-set w ↦
          let found : place_of L x ≡ Some w.in-Some.lbn = sym c.place.ensures ∙ w.in-Some.is in
          subst Q (sym w.draft-is) (one_deleted I old c.loop-number.draft w.set.new.self L xs x w.in-Some.lbn w.block.result.now w.deleted_header-block.result
          (place_inside _ L x w.in-Some.lbn c.requires.places found) found w.block.ensures.value w.deleted_header-block.ensures.value w.in_ok-set.ensures.ok c.loop-number.invariant)
      | in_default w ↦ subst Q (sym w.draft-is) (passed_by (applied I old) (applied I c.loop-number.draft) L xs x c.loop-number.invariant (sym c.place.ensures ∙ w.in_default.is))
    ])

pub returns : goal.returns
returns c =
    let I = c.args.disk.now.image.now in
    let P : List ℕ → Type 0 = λ xs. Deletes (applied I c.args.old.now) c.args.disk.now.layout.now xs (applied I c.loop-number.draft) in
    subst P (take_all c.loop-number.number-index c.args.numbers.now c.loop-number-test.false) c.loop-number.invariant
