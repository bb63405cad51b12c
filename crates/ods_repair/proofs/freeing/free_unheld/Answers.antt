use Rattle.std.proofs.Common.{◌≡◌, ◌≢◌, ℕ, true, subst, sym, []}
use Rattle.std.specs.Prelude.{◌↔◌, ◌⊎◌}
use Rattle.std.specs.List.{All, Contains}
use Rattle.std.proofs.lemmas.Result.{err_from_is_err_and}
use Rattle.ods_mount.specs.Sound.{IsSoundBy}
use Rattle.ods_amend.specs.Bits.{IsLoose}
use Rattle.ods_check.specs.Findings.{IsHeldByNone, unheld_line}
use Rattle.ods_check.specs.Runs.{AddsRuns}
use Rattle.ods_filing.specs.Contiguous.{HasMarked}
use Rattle.ods_repair.specs.Freed.{AreKnown, IsNotFreed, IsUnknown}
use Rattle.ods_repair.specs.declared.fault.RepairFault.TheVariants.{NoMemory}
use Rattle.ods_repair.proofs.FreedAll.{same_here, all_loose, are_freed, not_freed}
use Rattle.ods_repair.proofs.freeing.free_unheld.Goals as goal

pub mark_blocks-requires : goal.mark_blocks-requires
mark_blocks-requires c =
    let I = c.args.filing.now.image in
    let L = c.args.filing.now.layout in
    let exactly : (b : ℕ) → Contains c.in_ok-blocks.blocks.items b ↔ IsHeldByNone I L b =
    same_here (λ K M. (b : ℕ) → Contains c.in_ok-blocks.blocks.items b ↔ IsHeldByNone K M b) c.disk-2.result.image.now I c.disk-2.result.layout.now L c.disk-2.ensures.image c.disk-2.ensures.layout c.in_ok-blocks.ensures in
    λ freed. subst (All (IsLoose I L)) (sym c.deref-2.ensures.value) (all_loose I L c.in_ok-blocks.blocks.items exactly)

pub returns-in_err-check_known-clause-refused : goal.returns-in_err-check_known-clause-refused
returns-in_err-check_known-clause-refused c =
    let I = c.args.filing.now.image in
    let L = c.args.filing.now.layout in
    let J = c.disk-3.result.image.now in
    let M = c.disk-3.result.layout.now in
    let blocks = c.in_ok-blocks.blocks.items in
    let why = c.in_err-check_known.field-0.0 in
    let exactly : (b : ℕ) → Contains blocks b ↔ IsHeldByNone I L b =
    same_here (λ K N. (b : ℕ) → Contains blocks b ↔ IsHeldByNone K N b) c.disk-2.result.image.now I c.disk-2.result.layout.now L c.disk-2.ensures.image c.disk-2.ensures.layout c.in_ok-blocks.ensures in
    let said : (why ≡ NoMemory) ⊎ ((blocks ≢ []) × IsUnknown I L why) =
    same_here (λ K N. (why ≡ NoMemory) ⊎ ((blocks ≢ []) × IsUnknown K N why)) J I M L c.disk-3.ensures.image c.disk-3.ensures.layout
    (subst (λ l. (why ≡ NoMemory) ⊎ ((l ≢ []) × IsUnknown J M why)) c.deref.ensures.value c.in_err-check_known.ensures.err) in
    let p = err_from_is_err_and c.from_residual-in_err-check_known.result c.from_residual-in_err-check_known.ensures.1 in
    rw p.1 (subst (IsNotFreed c.args.filing.now) (sym p.2) (not_freed I L blocks why exactly said))

pub returns-clause-freed : goal.returns-clause-freed
returns-clause-freed c =
    let I = c.args.filing.now.image in
    let L = c.args.filing.now.layout in
    let told = c.in_ok-told.told in
    let exactly : (b : ℕ) → Contains c.in_ok-blocks.blocks.items b ↔ IsHeldByNone I L b =
    same_here (λ K M. (b : ℕ) → Contains c.in_ok-blocks.blocks.items b ↔ IsHeldByNone K M b) c.disk-2.result.image.now I c.disk-2.result.layout.now L c.disk-2.ensures.image c.disk-2.ensures.layout c.in_ok-blocks.ensures in
    let known : c.in_ok-blocks.blocks.items ≢ [] → AreKnown I L =
    λ some. same_here AreKnown c.disk-3.result.image.now I c.disk-3.result.layout.now L c.disk-3.ensures.image c.disk-3.ensures.layout (c.in_ok-check_known.ensures.ok (subst (λ l. l ≢ []) (sym c.deref.ensures.value) some)) in
    let runs = same_here (λ K M. AddsRuns (IsHeldByNone K M) unheld_line ([], 4294967295) c.in_ok-told.told) c.disk.result.image.now I c.disk.result.layout.now L c.disk.ensures.image c.disk.ensures.layout c.in_ok-told.ensures in
    let sound : IsSoundBy I L = same_here IsSoundBy c.disk.result.image.now I c.disk.result.layout.now L c.disk.ensures.image c.disk.ensures.layout c.disk.ensures.sound in
    are_freed c.args.filing.now c.mark_blocks.new.self told c.in_ok-blocks.blocks.items 4294967295 sound known exactly
    (subst (λ bs. HasMarked c.args.filing.now bs true c.mark_blocks.new.self) c.deref-2.ensures.value c.in_ok-mark_blocks.ensures.marked) runs
