-- Headers and their pointers, one by one.
use Rattle.std.proofs.Common.{◌≡◌, ◌≢◌, ℕ, Bool, true, false, MatchBool, IsTrue, ◌+◌, ◌<◌, ◌≤◌, List, length, slice_get, Some, inl, inr, sym, ap, ◌∙◌, subst, arith}
use Rattle.std.proofs.lemmas.Bool.{cases_lt}
use Rattle.std.proofs.lemmas.Option.{slice_get_within}
use Rattle.ods_header.specs.declared.header.Run.{Run}
use Rattle.ods_header.specs.Header.{IsValidHeader, runs_of}
use Rattle.ods_space.specs.Layout.{VolumeLayout, header_at, is_in_use, last_number}
use Rattle.ods_container.specs.Size.{EndBelow, IsMappedBelow, AreMappedBelow, IsSaid, control_block, map_blocks, size_in}

-- a valid header in use, but 3, maps only blocks below S where its pointers end there
pub mapped_by : (I : List (List ℕ)) (L : VolumeLayout) (S n : ℕ) (b : List ℕ) (r : Bool) → b ≡ header_at I L n → n ≢ 3 → IsTrue (is_in_use I L.home n) → IsValidHeader b n →
    MatchBool r (EndBelow b S) (¬ EndBelow b S) → MatchBool r (IsMappedBelow I L S n) (¬ IsMappedBelow I L S n)
mapped_by I L S n b true here other used valid ends =
    let P : List ℕ → Type 0 = λ x. EndBelow x S in
    λ _ _ _. subst P here ends
mapped_by I L S n b false here other used valid ends =
    let P : List ℕ → Type 0 = λ x. EndBelow x S in
    let Q : List ℕ → Type 0 = λ x. IsValidHeader x n in
    λ mapped. ends (subst P (sym here) (mapped other used (subst Q here valid)))

-- one header more does
pub next_mapped : (I : List (List ℕ)) (L : VolumeLayout) (S k : ℕ) → ((n : ℕ) → n < k → IsMappedBelow I L S n) → IsMappedBelow I L S k → (n : ℕ) → n < k + 1 → IsMappedBelow I L S n
next_mapped I L S k before this n low = elim (cases_lt n k) [
  | inl less ↦ before n less
  | inr more ↦
      let e : k ≡ n = omega arith in
      let P : ℕ → Type 0 = λ x. IsMappedBelow I L S x in
      subst P e this
]

-- all headers do
pub all_mapped : (I : List (List ℕ)) (L : VolumeLayout) (S k last : ℕ) → last ≡ last_number L → last + 1 ≤ k → ((n : ℕ) → n < k → IsMappedBelow I L S n) → AreMappedBelow I L S
all_mapped I L S k last is end before n few = before n (omega (arith, is, end, few))

-- one does not
pub not_mapped : (I : List (List ℕ)) (L : VolumeLayout) (S k last : ℕ) → last ≡ last_number L → k < last + 1 → ¬ IsMappedBelow I L S k → ¬ AreMappedBelow I L S
not_mapped I L S k last is low other all = other (all k (omega (arith, is, low)))

-- a storage control block says one size
pub one_size : (I : List (List ℕ)) (L : VolumeLayout) (S T : ℕ) → IsSaid I L S → IsSaid I L T → S ≡ T
one_size I L S T one other =
    let here = one.blocks in
    let there = other.blocks in
    let same : map_blocks S ≡ map_blocks T = omega (arith, here, there) in
    sym one.size ∙ ap (size_in (control_block I L)) same ∙ other.size
