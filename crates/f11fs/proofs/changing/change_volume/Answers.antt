use Rattle.std.proofs.Common.{rules, ◌≡◌, ℕ, List, [], ◌∷◌, ◌++◌, subst, sym}
use Rattle.std.specs.Prelude.{OnOk}
use Rattle.std.specs.Borrow.{Bor}
use Rattle.fs_words.specs.declared.actions.Change.{Change}
use Rattle.ods_upkeep.specs.Purged.{IsPurged}
use Rattle.ods_upkeep.specs.declared.asked.Placing.{Placing}
use Rattle.f11fs.specs.Changed.{CopiesToLast, IsChanged}
use Rattle.std.proofs.lemmas.Result.{on_ok_weaker}
use Rattle.f11fs.proofs.Leading.{through}
use Rattle.f11fs.proofs.changing.change_volume.Goals as goal

pub returns-in-Purge-clause-done : goal.returns-in-Purge-clause-done
returns-in-Purge-clause-done g c =
    let keep = c.in-Purge.keep in
    let paths = c.args.words.now.paths.items in
    let old = c.args.filing.now in
    let new = c.purge_files-done.new.filing in
    let done : OnOk c.purge_files-done.result (IsPurged keep paths old new) = subst (λ (ps : List (Bor (List ℕ))). OnOk c.purge_files-done.result (IsPurged keep ps old new)) c.as_slice-paths.ensures.value c.purge_files-done.ensures.done in
    subst (λ (asked : Change). OnOk c.end_change-in-Purge.result (IsChanged (g.R.Host.gives c.args.rt.now) asked paths c.args.stamp old new)) (sym c.in-Purge.is)
    (through (IsPurged keep paths old new) c.purge_files-done.result c.end_change-in-Purge.result done c.end_change-in-Purge.ensures.done)

pub returns-in-Some-clause-done : goal.returns-in-Some-clause-done
returns-in-Some-clause-done g c =
    let words = c.args.words.now.paths.items in
    let old = c.args.filing.now in
    let new = c.copy_files-done.new.filing in
    let placing = c.placing_for-placing.result in
    let split : words ≡ c.in-Some.paths.now ++ c.in-Some.to.now ∷ [] = search rules in
    let done : OnOk c.copy_files-done.result (CopiesToLast placing words c.args.stamp old new) = on_ok_weaker c.copy_files-done.result (λ copied. (c.in-Some.paths.now, (c.in-Some.to.now, split, copied))) c.copy_files-done.ensures.done in
    let ends : OnOk c.end_change.result (CopiesToLast placing words c.args.stamp old new) = through (CopiesToLast placing words c.args.stamp old new) c.copy_files-done.result c.end_change.result done c.end_change.ensures.done in
    subst (λ (asked : Change). OnOk c.end_change.result (IsChanged (g.R.Host.gives c.args.rt.now) asked words c.args.stamp old new)) (sym c.in-Cp.is)
    (subst (λ (p : Placing). OnOk c.end_change.result (CopiesToLast p words c.args.stamp old new)) c.placing_for-placing.ensures ends)
