-- What is known of the first numbers of which something holds, and of one more.
use Rattle.std.proofs.Common.{◌≡◌, ◌⊎◌, inl, inr, ℕ, ◌+◌, refl, sym, ap, ◌∙◌, subst, List, [], ◌∷◌, ◌++◌, arith}
use Rattle.std.specs.List.{AllZip, range_with_len}
use Rattle.ods_shell.proofs.OneName.{those_as_before, those_more}
use Rattle.ods_shell.proofs.Unreached.{range_next}
use Rattle.ods_shell.specs.Choosing.{AreThose}

zip_more : {X : Type 0} (R : ℕ → X → Type 0) (numbers : List ℕ) (all : List X) (n : ℕ) (one : X) → AllZip R numbers all → R n one → AllZip R (numbers ++ n ∷ []) (all ++ one ∷ [])
zip_more R [] [] n one are is = (is, tt)
zip_more R [] (y ∷ all) n one are is = absurd are
zip_more R (m ∷ numbers) [] n one are is = absurd are
zip_more R (m ∷ numbers) (y ∷ all) n one are is = (are.0, zip_more R numbers all n one are.1 is)

-- So far: of the first k numbers those of which P holds, and what is known of each.
abbrev pub AreKnownTo : {X : Type 0} → (ℕ → Type 0) → (ℕ → X → Type 0) → ℕ → List X → Type 0
AreKnownTo P R k all = (numbers : List ℕ) × AreThose P (range_with_len 1 k) numbers × AllZip R numbers all

pub known_none : {X : Type 0} (P : ℕ → Type 0) (R : ℕ → X → Type 0) (all : List X) → all ≡ [] → AreKnownTo P R 0 all
known_none P R all none = ([], refl, subst (AllZip R []) (sym none) tt)

pub known_next : {X : Type 0} (P : ℕ → Type 0) (R : ℕ → X → Type 0) (k : ℕ) (old new : List X)
    → (P (k + 1) × ((one : X) × R (k + 1) one × (new ≡ old ++ one ∷ []))) ⊎ ((¬ P (k + 1)) × (new ≡ old)) → AreKnownTo P R k old → AreKnownTo P R (k + 1) new
known_next P R k old new adds are = elim adds [
  | inl one ↦ (
    are.0 ++ (k + 1) ∷ [],
    subst (λ r. AreThose P r (are.0 ++ (k + 1) ∷ [])) (sym (range_next k)) (those_more P (range_with_len 1 k) are.0 (k + 1) one.0 are.1),
    subst (AllZip R (are.0 ++ (k + 1) ∷ [])) (sym one.1.2) (zip_more R are.0 old (k + 1) one.1.0 are.2 one.1.1),
  )
  | inr none ↦ (
    are.0,
    subst (λ r. AreThose P r are.0) (sym (range_next k)) (those_as_before P (range_with_len 1 k) are.0 (k + 1) none.0 are.1),
    subst (AllZip R are.0) (sym none.1) are.2,
  )
]
