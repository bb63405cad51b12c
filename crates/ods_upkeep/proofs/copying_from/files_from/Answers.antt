use Rattle.std.proofs.Common.{◌≡◌, true, [], subst, inl, inr}
use Rattle.std.proofs.lemmas.Result.{err_from_is_err_and}
use Rattle.ods_upkeep.specs.CopiedFrom.{are_passed_over}
use Rattle.ods_upkeep.specs.Refused.{AreNoSources}
use Rattle.ods_upkeep.specs.Sources.{AreSources}
use Rattle.ods_upkeep.specs.UncopiedFrom.{AreAllPassed}
use Rattle.ods_upkeep.proofs.copying_from.files_from.Goals as goal

pub returns : goal.returns
returns c =
    let I = c.args.other.now.image.now in
    let L = c.args.other.now.layout.now in
    let all = c.in_ok-files.files.items in
    let some : are_passed_over all ≡ true → all ≡ [] = subst (λ xs. are_passed_over xs ≡ true → xs ≡ []) c.deref.ensures.value c.in_ok-refuse_none.ensures.some in
    (all, subst (λ u. AreSources I L u c.args.paths.now all) c.highest.ensures c.in_ok-files.ensures, c.in_ok-refuse_twins.ensures.none, some, c.keep_copied.ensures)

pub returns-in_err-files : goal.returns-in_err-files
returns-in_err-files c =
    let I = c.args.other.now.image.now in
    let L = c.args.other.now.layout.now in
    let p = err_from_is_err_and c.from_residual.result c.from_residual.ensures.1 in
    rw (p.1, p.2) (inl (subst (λ u. AreNoSources I L u c.args.paths.now c.in_err-files.field-0.0) c.highest.ensures c.in_err-files.ensures))

pub returns-in_err-refuse_none : goal.returns-in_err-refuse_none
returns-in_err-refuse_none c =
    let I = c.args.other.now.image.now in
    let L = c.args.other.now.layout.now in
    let all = c.in_ok-files.files.items in
    let failure = c.in_err-refuse_none.field-0.0 in
    let passed : AreAllPassed all failure = subst (λ xs. AreAllPassed xs failure) c.deref.ensures.value c.in_err-refuse_none.ensures.none in
    let p = err_from_is_err_and c.from_residual-in_err-refuse_none.result c.from_residual-in_err-refuse_none.ensures.1 in
    rw (p.1, p.2) (inr (inr (all, subst (λ u. AreSources I L u c.args.paths.now all) c.highest.ensures c.in_ok-files.ensures, passed)))

pub returns-in_err-refuse_twins : goal.returns-in_err-refuse_twins
returns-in_err-refuse_twins c =
    let p = err_from_is_err_and c.from_residual-in_err-refuse_twins.result c.from_residual-in_err-refuse_twins.ensures.1 in
    rw (p.1, p.2) (inr (inl c.in_err-refuse_twins.ensures.some))
