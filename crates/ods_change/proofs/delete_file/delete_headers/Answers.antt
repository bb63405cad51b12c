use Rattle.std.proofs.Common.{ℕ, List, [], ◌∷◌, ◌++◌, sym, ◌∙◌, subst}
use Rattle.ods_space.specs.Draft.{Changes, applied}
use Rattle.ods_space.proofs.Drafts.{applied_none}
use Rattle.ods_alloc.specs.Marks.{Deletes}
use Rattle.ods_alloc.proofs.Giving.{none_deleted, passed_by}
use Rattle.ods_change.proofs.HeldByFiles.{all_noted, first_read, none_noted, one_deleted_here, one_noted, places_in, rest_read}
use Rattle.ods_change.proofs.delete_file.delete_headers.Goals as goal
use Rattle.ods_change.proofs.delete_file.delete_headers.Goals.{in-Some-place+in_ok-set, in_default-place}

pub loop-at-init : goal.loop-at-init
loop-at-init c =
    let I = c.args.disk.now.image.now in
    let L = c.args.disk.now.layout.now in (
      none_noted c.args.lbns.items c.args.headers c.new-numbers.result.items c.new-numbers.ensures.items,
      c.requires.read,
      subst (λ d. Deletes (applied I []) L c.new-numbers.result.items (applied I d)) (sym c.requires.new)
          (subst (λ xs. Deletes (applied I []) L xs (applied I [])) (sym c.new-numbers.ensures.items) (none_deleted (applied I []) L)),
    )

pub loop-at-preserved : goal.loop-at-preserved
loop-at-preserved c =
    let I = c.args.disk.now.image.now in
    let L = c.args.disk.now.layout.now in
    let before = c.loop-at.invariant in
    let next = c.in-Some.ensures.some.0 in
    let x = c.in-Some.at in
    let xs = c.loop-at.numbers.items in
    let P : List ℕ → Type 0 = λ ns. Deletes (applied I []) L ns (applied I c.match-place.draft) in
    let Q : Changes → Type 0 = λ d. Deletes (applied I []) L (xs ++ x ∷ []) (applied I d) in (
      one_noted c.args.lbns.items c.args.headers c.loop-at.headers c.next.new.self c.loop-at.lbns.items xs c.push_header.new.named.items c.push.new.self.items
          _ next c.in_ok-push_header.ensures c.in_ok-push.ensures.items before.0,
      rest_read I L c.loop-at.headers c.next.new.self _ next before.1,
      subst P (sym c.in_ok-push.ensures.items) (elim c.match-place.branch [
        | in-Some-place+in_ok-set w ↦ subst Q (sym w.draft-is) (one_deleted_here I L (places_in I L c.requires.layout c.requires.places) c.loop-at.draft xs before.2 w.set.new.self x w.in-Some-place.lbn
            c.in-Some.header.now w.deleted_header.result (sym c.place.ensures ∙ w.in-Some-place.is) (first_read I L c.loop-at.headers c.next.new.self (x, c.in-Some.header.now) next before.1) w.deleted_header.ensures.value w.in_ok-set.ensures.ok)
        | in_default-place w ↦ subst Q (sym w.draft-is) (passed_by (applied I []) (applied I c.loop-at.draft) L xs x before.2 (sym c.place.ensures ∙ w.in_default-place.is))
      ]),
    )

pub returns-clause-held : goal.returns-clause-held
returns-clause-held c = all_noted c.args.lbns.items c.args.headers c.loop-at.headers c.loop-at.lbns.items c.loop-at.numbers.items c.loop-at.invariant.0 c.in_default.ensures.none

pub returns-clause-deleted : goal.returns-clause-deleted
returns-clause-deleted c =
    let I = c.args.disk.now.image.now in
    subst (λ J. Deletes J c.args.disk.now.layout.now c.loop-at.numbers.items (applied I c.loop-at.draft)) (sym (applied_none I)) c.loop-at.invariant.2
