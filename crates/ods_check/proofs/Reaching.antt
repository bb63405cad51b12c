-- The headers that files reach.
use Rattle.std.specs.Prelude.{MatchBool}
use Rattle.std.proofs.Common.{not, nat_eq, zero, suc, ◌≡◌, ◌≢◌, ◌⊎◌, ℕ, ◌+◌, true, List, [], ◌∷◌, ◌++◌, length, slice_get, Some, inl, inr, refl, sym, ap, ◌∙◌, subst, arith}
use Rattle.std.proofs.lemmas.Bool.{ne_eqb}
use Rattle.std.proofs.lemmas.List.{append-nil, append_assoc, length-append}
use Rattle.ods_base.specs.Image.{IsImage}
use Rattle.ods_space.specs.Layout.{VolumeLayout}
use Rattle.ods_space.specs.Chain.{IsChain, headers_of, numbers_of}
use Rattle.ods_space.specs.Files.{IsLayoutOf}
use Rattle.ods_space.proofs.Parts.{part_at}
use Rattle.ods_space.proofs.Surveyed.{file_of_chain}
use Rattle.ods_space.proofs.Wholes.{chain_seen}
use Rattle.ods_mount.specs.Tables.{has, IsWith}
use Rattle.ods_check.specs.Sets.{IsSetOf}
use Rattle.ods_check.specs.Findings.{HasAsHeader}
use Rattle.ods_check.proofs.Noting.{IsWithFirst, first_none, first_more, first_all, set_as}

-- The numbers of all headers of a chain but of these, which are still to come, are in the set beside what it had.
pub record IsReaching (numbers start now : List ℕ) (rest : List (ℕ × List ℕ)) : Type 0 where
  pub front : List ℕ
  pub parts : numbers ≡ front ++ numbers_of rest
  pub noted : IsWithFirst start numbers (length front) now

pub reaching_first : (all rest : List (ℕ × List ℕ)) (start : List ℕ) → rest ≡ all → IsReaching (numbers_of all) start start rest
reaching_first all rest start same = record { front = []; parts = ap numbers_of (sym same); noted = first_none start (numbers_of all) }

module _ (numbers start now : List ℕ) (old : List (ℕ × List ℕ)) (w : IsReaching numbers start now old) where
  -- one header more
  pub reaching_more : (h : ℕ × List ℕ) (rest : List (ℕ × List ℕ)) (new : List ℕ) → old ≡ h ∷ rest → IsWith new now h.0 → IsReaching numbers start new rest
  reaching_more h rest new is with_it =
      let e : length w.front + 0 ≡ length w.front = omega arith in
      let P : ℕ → Type 0 = λ i. slice_get numbers i ≡ Some h.0 in
      let at : slice_get numbers (length w.front) ≡ Some h.0 = subst P e (part_at numbers w.front (h.0 ∷ []) (numbers_of rest) 0 h.0 (w.parts ∙ ap (λ hs. w.front ++ numbers_of hs) is) refl) in
      let size : length w.front + 1 ≡ length (w.front ++ h.0 ∷ []) = let s = length-append w.front (h.0 ∷ []) in omega arith in
      let Q : ℕ → Type 0 = λ i. IsWithFirst start numbers i new in
      record {
        front = w.front ++ h.0 ∷ [];
        parts = w.parts ∙ ap (λ hs. w.front ++ numbers_of hs) is ∙ sym (append_assoc w.front (h.0 ∷ []) (numbers_of rest));
        noted = subst Q size (first_more start numbers (length w.front) h.0 now new w.noted at with_it);
      }

  -- all are there
  pub reaching_all : old ≡ [] → IsSetOf (λ x. (has start x ≡ true) ⊎ ((j : ℕ) × (slice_get numbers j ≡ Some x))) now
  reaching_all none =
      let all : w.front ≡ numbers = sym (w.parts ∙ ap (λ hs. w.front ++ numbers_of hs) none ∙ append-nil w.front) in
      let size : length w.front ≡ length numbers = ap length all in
      first_all start numbers (length w.front) now (omega arith) w.noted

-- the headers of the chain of n are those that file n has
pub reached_of : (I : List (List ℕ)) (L : VolumeLayout) (n : ℕ) (others blocks old new : List ℕ) → IsImage I → IsLayoutOf I L → IsChain I L n others blocks
    → IsSetOf (λ x. (has old x ≡ true) ⊎ ((j : ℕ) × (slice_get (numbers_of (headers_of I L n)) j ≡ Some x))) new → IsSetOf (λ x. (has old x ≡ true) ⊎ HasAsHeader I L n x) new
reached_of I L n others blocks old new image layout chain s =
    let numbers = numbers_of (headers_of I L n) in
    let seen = chain_seen I L n others blocks image layout chain in
    set_as (λ x. (has old x ≡ true) ⊎ ((j : ℕ) × (slice_get numbers j ≡ Some x))) (λ x. (has old x ≡ true) ⊎ HasAsHeader I L n x) new
    (λ x o. elim o [
      | inl m ↦ inl m
      | inr (j, at) ↦
          let P : List ℕ → Type 0 = λ ys. slice_get ys j ≡ Some x in
          inr (j, record { file = file_of_chain I L n others blocks (record { home = layout.home; index = layout.index }) chain; others = others; blocks = blocks; chain = chain; named = subst P seen.numbers at })
    ])
    (λ x o. elim o [
      | inl m ↦ inl m
      | inr (v, h) ↦
          let P : List ℕ → Type 0 = λ ys. slice_get ys v ≡ Some x in
          inr (v, subst P (sym (chain_seen I L n h.others h.blocks image layout h.chain).numbers) h.named)
    ]) s

-- a test whether a segment is not the first
pub later_is : (s : ℕ) (T : Type 0) → (s ≢ 0 → T) → (T → s ≢ 0) → MatchBool (not (nat_eq s 0)) T (¬ T)
later_is zero T to from = λ t. from t refl
later_is (suc s) T to from = let some : suc s ≢ 0 = λ p. omega arith in let e = ne_eqb (suc s) 0 some in rw e (to some)
