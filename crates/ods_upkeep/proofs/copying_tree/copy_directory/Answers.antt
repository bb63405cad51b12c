use Rattle.std.proofs.Common.{◌≡◌, ◌∙◌, ap, subst, drop}
use Rattle.std.proofs.lemmas.Result.{IfErr-weaker, err_from_is_err_and}
use Rattle.ods_upkeep.specs.CopiedFrom.{AreAllCopiedOver}
use Rattle.ods_upkeep.specs.CopiedTree.{IsArrived, target_at}
use Rattle.ods_upkeep.specs.UncopiedFrom.{AreNotCopiedOver}
use Rattle.ods_upkeep.specs.UncopiedTree.{IsDirectoryUncopied, IsNotArrived, uncopied, unplaced, unread}
use Rattle.ods_upkeep.proofs.Lists.{if_done}
use Rattle.ods_upkeep.proofs.Stopping.{no_path}
use Rattle.ods_upkeep.proofs.copying_tree.copy_directory.Goals as goal

pub returns-clause-done : goal.returns-clause-done
returns-clause-done c =
    let I = c.args.other.now.image.now in
    let L = c.args.other.now.layout.now in
    let old = c.args.filing.now in
    let mid = c.arrive.new.filing in
    let place = c.in_ok-place.place in
    let due = c.in_ok-place.ensures.done in
    let files = c.in-Ok.files.items in
    let names : c.names_behind-names.result.now ≡ drop c.args.depth c.args.directory.now.names.items = c.names_behind-names.ensures ∙ ap (drop c.args.depth) c.deref.ensures.value in
    let placed : IsArrived I L c.args.how.now c.args.stamp c.args.path.now c.args.directory.now.number c.args.dir (drop c.args.depth c.args.directory.now.names.items) due.0 old place mid =
    subst (λ ns. IsArrived I L c.args.how.now c.args.stamp c.args.path.now c.args.directory.now.number c.args.dir ns due.0 old place mid) names due.2 in
    if_done c.copy_each.result
    (λ copied. (
      due.0,
      due.1,
      (place, (mid, (files, placed, c.in-Ok.ensures, subst (λ l. AreAllCopiedOver I L c.args.how.now (target_at place) c.args.stamp l mid c.copy_each.new.filing) c.deref-2.ensures.value copied))),
    )) c.copy_each.ensures.done

pub returns-clause-refused : goal.returns-clause-refused
returns-clause-refused c =
    let I = c.args.other.now.image.now in
    let L = c.args.other.now.layout.now in
    let old = c.args.filing.now in
    let mid = c.arrive.new.filing in
    let new = c.copy_each.new.filing in
    let place = c.in_ok-place.place in
    let due = c.in_ok-place.ensures.done in
    let files = c.in-Ok.files.items in
    let names : c.names_behind-names.result.now ≡ drop c.args.depth c.args.directory.now.names.items = c.names_behind-names.ensures ∙ ap (drop c.args.depth) c.deref.ensures.value in
    let placed : IsArrived I L c.args.how.now c.args.stamp c.args.path.now c.args.directory.now.number c.args.dir (drop c.args.depth c.args.directory.now.names.items) due.0 old place mid =
    subst (λ ns. IsArrived I L c.args.how.now c.args.stamp c.args.path.now c.args.directory.now.number c.args.dir ns due.0 old place mid) names due.2 in
    IfErr-weaker c.copy_each.result (AreNotCopiedOver I L c.args.how.now (target_at place) c.args.stamp c.deref-2.result.now mid new)
    (IsDirectoryUncopied I L c.args.how.now c.args.stamp c.args.path.now c.args.dir c.args.depth c.args.directory.now old new)
    (λ failure stops. uncopied place due.0 mid files placed c.in-Ok.ensures (subst (λ l. AreNotCopiedOver I L c.args.how.now (target_at place) c.args.stamp l mid new failure) c.deref-2.ensures.value stops)) c.copy_each.ensures.refused

pub returns-in_err-place-clause-refused : goal.returns-in_err-place-clause-refused
returns-in_err-place-clause-refused c =
    let I = c.args.other.now.image.now in
    let L = c.args.other.now.layout.now in
    let failure = c.in_err-place.field-0.0 in
    let names : c.names_behind-names.result.now ≡ drop c.args.depth c.args.directory.now.names.items = c.names_behind-names.ensures ∙ ap (drop c.args.depth) c.deref.ensures.value in
    let none : IsNotArrived I L c.args.stamp c.args.path.now c.args.directory.now.number c.args.dir (drop c.args.depth c.args.directory.now.names.items) c.args.filing.now c.arrive.new.filing failure =
    subst (λ ns. IsNotArrived I L c.args.stamp c.args.path.now c.args.directory.now.number c.args.dir ns c.args.filing.now c.arrive.new.filing failure) names c.in_err-place.ensures.refused in
    let p = err_from_is_err_and c.from_residual.result c.from_residual.ensures.1 in
    rw (p.1, p.2) (unplaced none)

pub returns-in-Err-clause-refused : goal.returns-in-Err-clause-refused
returns-in-Err-clause-refused c =
    let I = c.args.other.now.image.now in
    let L = c.args.other.now.layout.now in
    let old = c.args.filing.now in
    let mid = c.arrive.new.filing in
    let place = c.in_ok-place.place in
    let due = c.in_ok-place.ensures.done in
    let names : c.names_behind-names.result.now ≡ drop c.args.depth c.args.directory.now.names.items = c.names_behind-names.ensures ∙ ap (drop c.args.depth) c.deref.ensures.value in
    let placed : IsArrived I L c.args.how.now c.args.stamp c.args.path.now c.args.directory.now.number c.args.dir (drop c.args.depth c.args.directory.now.names.items) due.0 old place mid =
    subst (λ ns. IsArrived I L c.args.how.now c.args.stamp c.args.path.now c.args.directory.now.number c.args.dir ns due.0 old place mid) names due.2 in
    unread place due.0 placed (no_path c.of_path.result c.of_path.ensures.path (c.of_path.ensures.why ∙ c.into.ensures))
