-- What a mount says of an image by its home block alone, where the image has a layout.
use Rattle.std.proofs.Common.{◌≡◌, ℕ, ◌<◌, ◌≤◌, eqb, false, sym, ◌∙◌, subst, IsTrue, List, [], arith, inl, inr, refl}
use Rattle.std.proofs.lemmas.Bool.{cases_lt, le-leb, lt-leb, ne_eqb}
use Rattle.ods_header.specs.declared.home.Home.{Home}
use Rattle.ods_header.specs.Header.{IsFormat1, IsHeader}
use Rattle.ods_space.specs.Layout.{VolumeLayout, header_by, is_in_use}
use Rattle.ods_space.specs.Chain.{IsIndex}
use Rattle.ods_space.specs.Files.{HasIndexHeader, IsLayoutOf}
use Rattle.ods_mount.specs.declared.fault.MountFault.{MountFault}
use Rattle.ods_mount.specs.declared.fault.MountFault.TheVariants.{NoHome, BadIndex, BadStorageMap, BadMaster, UnsupportedMap, BadChain, OutsideVolume, DoublyUsed, MarkedFree, BadDirectory, DuplicateName, NoMemory}
use Rattle.ods_mount.specs.Faults.{IsTrueAtHome, IsTrueOf}
use Rattle.ods_mount.proofs.Layouts.{same_home}
use Rattle.ods_repair.specs.Framed.{IsReadAs}

-- headers 1 to 16 are placed by the home block alone
same_header : (I : List (List ℕ)) (h : Home) (index : List ℕ) (n : ℕ) → n ≤ 16 → header_by I h [] n ≡ header_by I h index n
same_header I h index n low = let e = le-leb n 16 low in rw e refl

-- without an index the others have no place
no_header : (I : List (List ℕ)) (h : Home) (n : ℕ) → 16 < n → header_by I h [] n ≡ []
no_header I h n high = let e = lt-leb n 16 high in let p : eqb n 0 ≡ false = ne_eqb n 0 (λ z. omega arith) in rw (p, e) refl

-- what is said by the home block alone of an image with a layout is true by that layout
pub at_home : (I : List (List ℕ)) (L : VolumeLayout) → IsLayoutOf I L → (fault : MountFault) → IsTrueAtHome I fault → IsTrueOf I L fault
at_home I L layout NoHome f = let at = layout.home.1 in absurd (f layout.home.0 at.place at.inside at.inside at.home)
at_home I L layout BadIndex (h, of, none) =
    let P : Home → Type 0 = λ g. HasIndexHeader I g → ⊥ in
    let file = layout.index.file in
    absurd ((subst P (same_home I h L.home of layout.home) none) (file.in_use, file.valid, file.segment))
at_home I L layout (BadChain n) (e, h, of, header, none) =
    let P : Home → Type 0 = λ g. (index : List ℕ) → IsIndex I g index → ⊥ in
    absurd ((subst P (same_home I h L.home of layout.home) none) L.index (layout.index.others, layout.index.whole.chain))
at_home I L layout (UnsupportedMap n) (h, of, used, is, other) = elim (cases_lt 16 n) [
  | inl high ↦
      let none : 0 ≡ n = (subst (λ b. IsHeader b n) (no_header I h n high) is).numbered in
      absurd (omega (arith, none, high))
  | inr low ↦
      let P : Home → Type 0 = λ g. IsTrue (is_in_use I g n) × IsHeader (header_by I g [] n) n × (IsFormat1 (header_by I g [] n) → ⊥) in
      let own = subst P (same_home I h L.home of layout.home) (used, is, other) in
      (own.0, subst (λ b. IsHeader b n) (same_header I L.home L.index n low) own.1, λ one. own.2 (subst IsFormat1 (sym (same_header I L.home L.index n low)) one))
]
at_home I L layout BadStorageMap f = absurd f
at_home I L layout BadMaster f = absurd f
at_home I L layout (OutsideVolume n b) f = absurd f
at_home I L layout (DoublyUsed m n b) f = absurd f
at_home I L layout (MarkedFree n b) f = absurd f
at_home I L layout (BadDirectory n) f = absurd f
at_home I L layout (DuplicateName n) f = absurd f
at_home I L layout NoMemory f = absurd f

module _ (I J : List (List ℕ)) (L : VolumeLayout) (layout : IsLayoutOf I L) (r : IsReadAs I J L) where
  early : (n : ℕ) → header_by J L.home [] n ≡ header_by I L.home [] n
  early n = elim (cases_lt 16 n) [
    | inl high ↦ no_header J L.home n high ∙ sym (no_header I L.home n high)
    | inr low ↦ same_header J L.home L.index n low ∙ r.headers n ∙ sym (same_header I L.home L.index n low)
  ]

  -- what is said then is so of each image that is read as this one
  pub home_fault_stays : (fault : MountFault) → IsTrueAtHome I fault → IsTrueAtHome J fault
  home_fault_stays NoHome f = let at = layout.home.1 in absurd (f layout.home.0 at.place at.inside at.inside at.home)
  home_fault_stays BadIndex (h, of, none) =
      let P : Home → Type 0 = λ g. HasIndexHeader I g → ⊥ in
      let file = layout.index.file in
      absurd ((subst P (same_home I h L.home of layout.home) none) (file.in_use, file.valid, file.segment))
  home_fault_stays (BadChain n) (e, h, of, header, none) =
      let P : Home → Type 0 = λ g. (index : List ℕ) → IsIndex I g index → ⊥ in
      absurd ((subst P (same_home I h L.home of layout.home) none) L.index (layout.index.others, layout.index.whole.chain))
  home_fault_stays (UnsupportedMap n) (h, of, used, is, other) =
      let P : Home → Type 0 = λ g. IsTrue (is_in_use I g n) × IsHeader (header_by I g [] n) n × (IsFormat1 (header_by I g [] n) → ⊥) in
      let own = subst P (same_home I h L.home of layout.home) (used, is, other) in (
        L.home,
        r.layout.home,
        subst IsTrue (sym (r.in_use n)) own.0,
        subst (λ b. IsHeader b n) (sym (early n)) own.1,
        λ one. own.2 (subst IsFormat1 (early n) one),
      )
  home_fault_stays BadStorageMap f = absurd f
  home_fault_stays BadMaster f = absurd f
  home_fault_stays (OutsideVolume n b) f = absurd f
  home_fault_stays (DoublyUsed m n b) f = absurd f
  home_fault_stays (MarkedFree n b) f = absurd f
  home_fault_stays (BadDirectory n) f = absurd f
  home_fault_stays (DuplicateName n) f = absurd f
  home_fault_stays NoMemory f = absurd f
