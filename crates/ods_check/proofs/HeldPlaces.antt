-- Places of a home block that files hold.
use Rattle.std.proofs.Common.{◌≡◌, ℕ, Bool, true, false, ◌+◌, ◌<◌, List, inl, inr, refl, arith}
use Rattle.std.specs.Prelude.{IsTrue, MatchBool}
use Rattle.ods_header.specs.Home.{IsHomeAt, IsHomePlace}
use Rattle.ods_space.specs.Layout.{VolumeLayout}
use Rattle.ods_space.specs.Files.{Holds}
use Rattle.ods_mount.specs.Checks.{IsFixed}
use Rattle.ods_check.specs.declared.fault_line.IndexFault.TheVariants.{HeldPlace}
use Rattle.ods_check.specs.Lines.{IsIndexFault}
use Rattle.ods_mount.proofs.Layouts.{same_place}

-- block i of file n, from 0, is a place of a home block below this one, and a request can change it
abbrev pub IsLoose : ℕ → ℕ → ℕ → ℕ → Type 0
IsLoose home n i b = IsHomePlace b × (b < home) × ¬ IsFixed n i

module _ (home n i b : ℕ) where
  pub loose_true : (t : Bool) → MatchBool t (IsLoose home n i b) (IsHomePlace b → b < home → IsFixed n i) → IsTrue t → IsLoose home n i b
  loose_true true h e = h
  loose_true false h e = absurd (cc)

  pub true_loose : (t : Bool) → MatchBool t (IsLoose home n i b) (IsHomePlace b → b < home → IsFixed n i) → IsLoose home n i b → IsTrue t
  true_loose true h l = refl
  true_loose false h l = absurd (l.2 (h l.0 l.1))

module _ (I : List (List ℕ)) (L : VolumeLayout) (home n i b : ℕ) where
  -- it is a reason why the index is bad
  pub loose_held : IsHomeAt I home → Holds I L n (i + 1) b → IsLoose home n i b → IsIndexFault I L (HeldPlace b n)
  loose_held at held l = (
    (home, at, l.0, l.1),
    i + 1,
    held,
    λ e. l.2 (inl e),
    λ e. l.2 (inr (inl e)),
    λ p. l.2 (inr (inr (p.0, (let low = p.1 in omega arith)))),
  )

  -- and where it is one the block is such a place
  pub held_loose : (v : ℕ) → IsHomeAt I home → v ≡ i + 1 → (t : IsIndexFault I L (HeldPlace b n)) → t.1 ≡ v → IsLoose home n i b
  held_loose v at is t same =
      let place = t.0 in
      let e = same_place I place.0 home place.1 at in
      let below = place.3 in (
        place.2,
        omega arith,
        λ fixed. elim fixed [
          | inl three ↦ t.3 three
          | inr (inl five) ↦ t.4 five
          | inr (inr (one, low)) ↦ t.5 (one, omega (arith, is, same, low))
        ],
      )
