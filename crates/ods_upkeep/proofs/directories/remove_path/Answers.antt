use Rattle.std.proofs.Common.{ℕ, false, inl, inr, refl, sym, subst}
use Rattle.std.specs.Prelude.{slice_index}
use Rattle.std.specs.List.{All}
use Rattle.std.proofs.lemmas.Result.{err_from_is_err_and}
use Rattle.ods_upkeep.specs.Counted.{AreCounts}
use Rattle.ods_upkeep.specs.Emptied.{IsEmptyDirectory, IsSought}
use Rattle.ods_upkeep.specs.Removed.{Does, StopsGoing, removals}
use Rattle.ods_upkeep.specs.Unemptied.{IsNotSought, IsOneNotEmpty}
use Rattle.ods_upkeep.proofs.Lists.{if_done}
use Rattle.ods_upkeep.proofs.Naming.{same_disk}
use Rattle.ods_upkeep.proofs.Unmeaning.{if_err_more}
use Rattle.ods_upkeep.proofs.directories.remove_path.Goals as goal

pub returns-clause-done : goal.returns-clause-done
returns-clause-done c =
    let all = c.in-Ok.all.items in
    let names : ℕ → ℕ = slice_index c.in-Ok-of.names in
    let shown = c.mounted-3.result.now in
    if_done c.remove_all.result
    (λ done. record {
      found = all;
      sought = same_disk (λ I L. IsSought I L c.args.path.now all) c.mounted.ensures.0 c.mounted.ensures.1 c.in-Ok.ensures;
      empty = same_disk (λ I L. All (IsEmptyDirectory I L) all) c.mounted-3.ensures.0 c.mounted-3.ensures.1 (subst (All (IsEmptyDirectory shown.image shown.layout)) c.deref.ensures.value c.in_ok-check_all_empty.ensures);
      names = names;
      counted = same_disk (λ I L. AreCounts I L names) c.mounted-2.ensures.0 c.mounted-2.ensures.1 c.in-Ok-of.ensures;
      done = subst (λ l. Does c.args.filing.now (removals false names l) c.remove_all.new.filing) c.deref-2.ensures.value done;
    })
    c.remove_all.ensures.done

pub returns-clause-refused : goal.returns-clause-refused
returns-clause-refused c =
    let all = c.in-Ok.all.items in
    let names : ℕ → ℕ = slice_index c.in-Ok-of.names in
    let shown = c.mounted-3.result.now in
    if_err_more c.remove_all.result
    (λ failure stop. inr (
      all,
      same_disk (λ I L. IsSought I L c.args.path.now all) c.mounted.ensures.0 c.mounted.ensures.1 c.in-Ok.ensures,
      inr (
          inr (
            same_disk (λ I L. All (IsEmptyDirectory I L) all) c.mounted-3.ensures.0 c.mounted-3.ensures.1 (subst (All (IsEmptyDirectory shown.image shown.layout)) c.deref.ensures.value c.in_ok-check_all_empty.ensures),
            (
              names,
              same_disk (λ I L. AreCounts I L names) c.mounted-2.ensures.0 c.mounted-2.ensures.1 c.in-Ok-of.ensures,
              subst (λ l. StopsGoing false names l c.args.filing.now c.remove_all.new.filing failure) c.deref-2.ensures.value stop,
            ),
          )
          ),
    ))
    c.remove_all.ensures.refused

pub returns-in-Err-clause-refused : goal.returns-in-Err-clause-refused
returns-in-Err-clause-refused c =
    inl (
      refl,
      subst (IsNotSought c.args.filing.now.image c.args.filing.now.layout c.args.path.now) (sym c.of_path.ensures.why)
          (same_disk (λ I L. IsNotSought I L c.args.path.now c.in-Err.why) c.mounted.ensures.0 c.mounted.ensures.1 c.in-Err.ensures),
      c.of_path.ensures.path,
    )

pub returns-in_err-check_all_empty-clause-refused : goal.returns-in_err-check_all_empty-clause-refused
returns-in_err-check_all_empty-clause-refused c =
    let all = c.in-Ok.all.items in
    let shown = c.mounted-3.result.now in
    let failure = c.in_err-check_all_empty.field-0.0 in
    let p = err_from_is_err_and c.from_residual.result c.from_residual.ensures.1 in
    rw (p.1, p.2)
    (inr (
      all,
      same_disk (λ I L. IsSought I L c.args.path.now all) c.mounted.ensures.0 c.mounted.ensures.1 c.in-Ok.ensures,
      inr (
          inl (
            refl,
            same_disk (λ I L. IsOneNotEmpty I L all failure) c.mounted-3.ensures.0 c.mounted-3.ensures.1
                (subst (λ l. IsOneNotEmpty shown.image shown.layout l failure) c.deref.ensures.value c.in_err-check_all_empty.ensures),
          )
          ),
    ))
