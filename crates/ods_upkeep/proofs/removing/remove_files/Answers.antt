use Rattle.std.proofs.Common.{◌≡◌, ◌∙◌, ap, refl, sym, subst, inl, inr, ℕ}
use Rattle.std.specs.Prelude.{slice_index}
use Rattle.std.proofs.lemmas.Result.{err_from_is_err_and, IfErr-weaker}
use Rattle.ods_upkeep.specs.Counted.{AreCounts}
use Rattle.ods_upkeep.specs.Refused.{AreNoSources, AreNotKept, IsFirstKept}
use Rattle.ods_upkeep.specs.Removed.{Does, IsNotRemoved, MayNotGo, StopsGoing, removals, unsaid_by}
use Rattle.ods_upkeep.specs.Sources.{AreSources}
use Rattle.ods_upkeep.proofs.Lists.{if_done}
use Rattle.ods_upkeep.proofs.Naming.{same_disk}
use Rattle.ods_upkeep.proofs.Stopping.{no_path}
use Rattle.ods_upkeep.proofs.removing.remove_files.Goals as goal
use Rattle.ods_upkeep.proofs.removing.remove_files.Goals.{After-sources, In-Ok, In_ok-all, In_ok-check_all, then-removal, else-removal}

-- the versions that are meant where none are said
unsaid : (c : After-sources) → c.if-removal.unsaid ≡ unsaid_by c.args.removal.newest
unsaid c = elim c.if-removal.branch [ then-removal w ↦ w.unsaid-is ∙ w.highest-unsaid.ensures ∙ ap unsaid_by (sym w.if-removal.true) | else-removal w ↦ w.unsaid-is ∙ ap unsaid_by (sym w.if-removal.false) ]

-- what the paths name
sources : (c : In_ok-all) → c.if-removal.unsaid ≡ unsaid_by c.args.removal.newest → AreSources c.args.filing.now.image c.args.filing.now.layout (unsaid_by c.args.removal.newest) c.args.paths.now c.in_ok-all.all.items
sources c is =
    subst (λ u. AreSources c.args.filing.now.image c.args.filing.now.layout u c.args.paths.now c.in_ok-all.all.items) is
    (same_disk (λ J M. AreSources J M c.if-removal.unsaid c.args.paths.now c.in_ok-all.all.items) c.mounted.ensures.0 c.mounted.ensures.1 c.in_ok-all.ensures)

-- how often each file is named
counts : (c : In-Ok) → AreCounts c.args.filing.now.image c.args.filing.now.layout (slice_index c.in-Ok.names)
counts c = same_disk (λ J M. AreCounts J M (slice_index c.in-Ok.names)) c.mounted-2.ensures.0 c.mounted-2.ensures.1 c.in-Ok.ensures

-- and all of it may go
none_kept : (c : In_ok-check_all) → AreNotKept (MayNotGo c.args.removal.entry_alone (slice_index c.in-Ok.names)) c.in_ok-all.all.items
none_kept c = subst (AreNotKept (MayNotGo c.args.removal.entry_alone (slice_index c.in-Ok.names))) c.deref.ensures.value c.in_ok-check_all.ensures.ok

pub returns-clause-done : goal.returns-clause-done
returns-clause-done c =
    let at = goal.at.returns-clause-done c in
    let names : ℕ → ℕ = slice_index c.in-Ok.names in
    if_done c.remove_all.result
    (λ done. (
      c.in_ok-all.all.items,
      (
        names,
        sources at.In_ok-all (unsaid at.After-sources),
        counts at.In-Ok,
        none_kept at.In_ok-check_all,
        subst (λ l. Does c.args.filing.now (removals c.args.removal.entry_alone names l) c.remove_all.new.filing) c.deref-2.ensures.value done,
      ),
    ))
    c.remove_all.ensures.done

pub returns-clause-refused : goal.returns-clause-refused
returns-clause-refused c =
    let at = goal.at.returns-clause-refused c in
    let names : ℕ → ℕ = slice_index c.in-Ok.names in
    let alone = c.args.removal.entry_alone in
    IfErr-weaker c.remove_all.result (StopsGoing alone names c.deref-2.result.now c.args.filing.now c.remove_all.new.filing)
    (IsNotRemoved alone c.args.removal.newest c.args.paths.now c.args.filing.now c.remove_all.new.filing)
    (λ failure stops. inr (
      c.in_ok-all.all.items,
      sources at.In_ok-all (unsaid at.After-sources),
      inr (
        names,
        counts at.In-Ok,
        inr (none_kept at.In_ok-check_all, subst (λ l. StopsGoing alone names l c.args.filing.now c.remove_all.new.filing failure) c.deref-2.ensures.value stops),
      ),
    ))
    c.remove_all.ensures.refused

pub returns-in_err-check_all-clause-refused : goal.returns-in_err-check_all-clause-refused
returns-in_err-check_all-clause-refused c =
    let at = goal.at.returns-in_err-check_all-clause-refused c in
    let names : ℕ → ℕ = slice_index c.in-Ok.names in
    let p = err_from_is_err_and c.from_residual-in_err-check_all.result c.from_residual-in_err-check_all.ensures.1 in
    rw (p.1, p.2)
    (inr (
      c.in_ok-all.all.items,
      sources at.In_ok-all (unsaid at.After-sources),
      inr (
        names,
        counts at.In-Ok,
        inl (refl, subst (λ l. IsFirstKept (MayNotGo c.args.removal.entry_alone names) l c.in_err-check_all.field-0.0) c.deref.ensures.value c.in_err-check_all.ensures.err),
      ),
    ))

pub returns-in-Err-clause-refused : goal.returns-in-Err-clause-refused
returns-in-Err-clause-refused c =
    let at = goal.at.returns-in-Err-clause-refused c in
    inr (c.in_ok-all.all.items, sources at.In_ok-all (unsaid at.After-sources), inl (refl, no_path c.of_path.result c.of_path.ensures.path (c.of_path.ensures.why ∙ c.into.ensures)))

pub returns-in_err-all-clause-refused : goal.returns-in_err-all-clause-refused
returns-in_err-all-clause-refused c =
    let at = goal.at.returns-in_err-all-clause-refused c in
    let I = c.args.filing.now.image in
    let L = c.args.filing.now.layout in
    let failure = c.in_err-all.field-0.0 in
    let p = err_from_is_err_and c.from_residual.result c.from_residual.ensures.1 in
    rw (p.1, p.2)
    (inl (
      refl,
      subst (λ u. AreNoSources I L u c.args.paths.now failure) (unsaid at.After-sources)
          (same_disk (λ J M. AreNoSources J M c.if-removal.unsaid c.args.paths.now failure) c.mounted.ensures.0 c.mounted.ensures.1 c.in_err-all.ensures),
    ))
