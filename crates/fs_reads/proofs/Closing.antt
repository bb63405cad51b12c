-- The numbers of which something holds, number by number.
use Rattle.std.proofs.Common.{◌≡◌, ◌⊎◌, inl, inr, ℕ, ◌+◌, ◌≤◌, refl, sym, subst, List, [], ◌∷◌, ◌++◌, Option, None, Some, arith}
use Rattle.std.specs.List.{All, Contains}
use Rattle.std.proofs.lemmas.Bool.{cases_lt}
use Rattle.ods_base.specs.declared.file_id.Uic.{Uic}
use Rattle.ods_space.specs.Layout.{VolumeLayout, last_number}
use Rattle.ods_shell.specs.declared.folders.Directory.{Directory as Met}
use Rattle.ods_shell.specs.Ways.{CountAsClosed}
use Rattle.fs_reads.specs.Denied.{AreClosedTo, IsClosedTo}
use Rattle.std.proofs.lemmas.List.Elements.{All-append, All-cons, Contains-append_left, Contains-append_right}

-- just those of the numbers up to n
abbrev pub AreThoseUpTo : (ℕ → Type 0) → ℕ → List ℕ → Type 0
AreThoseUpTo P n xs = All P xs × ((k : ℕ) → k ≤ n → P k → Contains xs k)

-- number n comes behind the others where it is one
abbrev pub AddsOne : (ℕ → Type 0) → ℕ → List ℕ → List ℕ → Type 0
AddsOne P n old new = (P n × (new ≡ old ++ n ∷ [])) ⊎ ((¬ P n) × (new ≡ old))

-- none before the first number
pub those_none : (P : ℕ → Type 0) → ((k : ℕ) → P k → 1 ≤ k) → AreThoseUpTo P 0 []
those_none P first = (λ k d small. absurd (omega (arith, small)), λ k low is. absurd (omega (arith, low, first k is)))

or_next : (k n : ℕ) → k ≤ n + 1 → (k ≤ n) ⊎ (k ≡ n + 1)
or_next k n low = elim (cases_lt n k) [ inl above ↦ inr (omega (arith, low, above)) | inr within ↦ inl within ]

alone : (x : ℕ) → Contains (x ∷ []) x
alone x = (0, omega arith, refl)

-- one number more
pub those_more : (P : ℕ → Type 0) (n : ℕ) (old new : List ℕ) → AreThoseUpTo P n old → AddsOne P (n + 1) old new → AreThoseUpTo P (n + 1) new
those_more P n old new are adds =
    elim adds [
      | inl (is, e) ↦ subst (λ xs. AreThoseUpTo P (n + 1) xs) (sym e) (
        All-append P old ((n + 1) ∷ []) are.0 (All-cons P (n + 1) [] is (λ k d small. absurd (omega (arith, small)))),
        λ k low holds. elim (or_next k n low) [ inl l ↦ Contains-append_left old ((n + 1) ∷ []) k (are.1 k l holds) | inr same ↦ subst (λ x. Contains (old ++ (n + 1) ∷ []) x) (sym same) (Contains-append_right old ((n + 1) ∷ []) (n + 1) (alone (n + 1))) ],
      )
      | inr (none, e) ↦ subst (λ xs. AreThoseUpTo P (n + 1) xs) (sym e)
          (are.0, λ k low holds. elim (or_next k n low) [ inl l ↦ are.1 k l holds | inr same ↦ absurd (none (subst P same holds)) ])
    ]

pub closed_to_last : (I : List (List ℕ)) (L : VolumeLayout) (who : Uic) (k : ℕ) → IsClosedTo I L who k → k ≤ last_number L
closed_to_last I L who k is = is.1.file.last

pub closed_all : (I : List (List ℕ)) (L : VolumeLayout) (who : Uic) (n : ℕ) (closed : List ℕ) → last_number L ≤ n → AreThoseUpTo (IsClosedTo I L who) n closed → AreClosedTo I L (Some who) closed
closed_all I L who n closed all are = (are.0, λ k is. are.1 k (omega (arith, all, closed_to_last I L who k is)) is)

-- a walk that had no closed directories, or met none, is one past no directory
pub counts_none : (I : List (List ℕ)) (L : VolumeLayout) (user : Option Uic) (closed : List ℕ) (met : List Met) → AreClosedTo I L user closed → (user ≡ None) ⊎ (met ≡ []) → CountAsClosed closed met []
counts_none I L None closed met are stops = inl (sym are)
counts_none I L (Some who) closed met are (inl none) = absurd (cc)
counts_none I L (Some who) closed met are (inr none) = inr (none, refl)
