-- What freeing leaves, by what each of its steps says.
use Rattle.std.proofs.Common.{◌≡◌, ◌≢◌, ℕ, refl, ap, sym, subst, true, List, [], ◌∷◌, get_or, arith, inl, inr}
use Rattle.std.specs.Prelude.{◌↔◌, ◌⊎◌}
use Rattle.std.specs.List.{All, Contains}
use Rattle.std.proofs.lemmas.List.Elements.{Contains-get_or}
use Rattle.ods_space.specs.Layout.{VolumeLayout}
use Rattle.ods_mount.specs.Sound.{IsSoundBy}
use Rattle.ods_amend.specs.Bits.{IsLoose}
use Rattle.ods_check.specs.declared.finding.Finding.{Finding}
use Rattle.ods_check.specs.Findings.{IsFound, IsHeldByNone, unheld_line}
use Rattle.ods_check.specs.Runs.{AddsRuns}
use Rattle.ods_filing.specs.Contiguous.{HasMarked}
use Rattle.ods_filing.specs.Filed.{Filed}
use Rattle.ods_repair.specs.Freed.{AreKnown, IsFreed, IsUnknown}
use Rattle.ods_repair.specs.declared.fault.RepairFault.{RepairFault}
use Rattle.ods_repair.specs.declared.fault.RepairFault.TheVariants.{NoMemory}
use Rattle.ods_repair.proofs.FreedFindings.{freed_findings}
use Rattle.ods_repair.proofs.NoneLeft.{loose, none_left}

-- what holds of one volume holds of the same
pub same_here : (P : List (List ℕ) → VolumeLayout → Type 0) (I J : List (List ℕ)) (L M : VolumeLayout) → I ≡ J → L ≡ M → P I L → P J M
same_here P I J L M image layout holds = subst (P J) layout (subst (λ K. P K L) image holds)

-- each of these blocks may be freed
pub all_loose : (I : List (List ℕ)) (L : VolumeLayout) (blocks : List ℕ) → ((b : ℕ) → Contains blocks b ↔ IsHeldByNone I L b) → All (IsLoose I L) blocks
all_loose I L blocks exactly k d low = loose I L (get_or blocks k d) ((exactly (get_or blocks k d)).0 (Contains-get_or blocks k d low))

-- the runs, beside how many of them may be kept
beside : (Is : ℕ → Type 0) (most : ℕ) (told : List Finding × ℕ) → AddsRuns Is unheld_line ([], most) told → AddsRuns Is unheld_line ([], most) (told.0, most)
beside Is most told adds = record { runs = adds.runs; is = ap (λ t. (t.0, most)) adds.is; each = adds.each; all = adds.all; rising = adds.rising }

-- where there is a first one, no file holds it
first_unheld : (I : List (List ℕ)) (L : VolumeLayout) (blocks : List ℕ) → ((b : ℕ) → Contains blocks b ↔ IsHeldByNone I L b) → blocks ≢ [] → (b : ℕ) × IsHeldByNone I L b
first_unheld I L [] exactly some = absurd (some refl)
first_unheld I L (b ∷ bs) exactly some = (b, (exactly b).0 (Contains-get_or (b ∷ bs) 0 0 (omega arith)))

-- so it is said that there is one
pub not_freed : (I : List (List ℕ)) (L : VolumeLayout) (blocks : List ℕ) (why : RepairFault) → ((b : ℕ) → Contains blocks b ↔ IsHeldByNone I L b) → (why ≡ NoMemory) ⊎ ((blocks ≢ []) × IsUnknown I L why)
    → (why ≡ NoMemory) ⊎ (((b : ℕ) × IsHeldByNone I L b) × IsUnknown I L why)
not_freed I L blocks why exactly (inl memory) = inl memory
not_freed I L blocks why exactly (inr (some, unknown)) = inr (first_unheld I L blocks exactly some, unknown)

-- and where no file holds one, there is a first one
some_there : (I : List (List ℕ)) (L : VolumeLayout) (blocks : List ℕ) → ((b : ℕ) → Contains blocks b ↔ IsHeldByNone I L b) → (b : ℕ) → IsHeldByNone I L b → blocks ≢ []
some_there I L blocks exactly b unheld none =
    let there : Contains [] b = subst (λ l. Contains l b) none ((exactly b).1 unheld) in
    let low = there.1 in
    absurd (omega (arith, low))

pub are_freed : (old new : Filed) (told : List Finding × ℕ) (blocks : List ℕ) (most : ℕ) → IsSoundBy old.image old.layout → (blocks ≢ [] → AreKnown old.image old.layout) → ((b : ℕ) → Contains blocks b ↔ IsHeldByNone old.image old.layout b)
    → HasMarked old blocks true new → AddsRuns (IsHeldByNone old.image old.layout) unheld_line ([], most) told → IsFreed old told.0 new
are_freed old new told blocks most sound known exactly marked runs = record {
  known = λ b unheld. known (some_there old.image old.layout blocks exactly b unheld);
  blocks = blocks;
  exactly = exactly;
  marked = marked;
  runs = (most, beside (IsHeldByNone old.image old.layout) most told runs);
  none = λ b left. none_left old.image new.image old.layout blocks (λ n held. (exactly n).1 held) marked.marked.0 b (subst (λ M. IsHeldByNone new.image M b) marked.marked.1 left);
  findings = λ finding of.
      let here = freed_findings old.image new.image old.layout blocks sound marked.marked.0 finding of in
      ((λ f. subst (λ M. IsFound new.image M finding) (sym marked.marked.1) (here.0 f)), (λ f. here.1 (subst (λ M. IsFound new.image M finding) marked.marked.1 f)));
}
