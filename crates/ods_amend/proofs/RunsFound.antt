-- The lowest run of n free blocks is found in one pass: what is known once the blocks below an LBN are looked at.
use Rattle.std.proofs.Common.{◌≡◌, ℕ, ◌+◌, ◌-◌, ◌<◌, ◌≤◌, ap, sym, ◌∙◌, subst, Bool, true, false, cond, ◌&&◌, List, [], ◌∷◌, ◌++◌, length, arith, inl, inr, refl}
use Rattle.std.specs.Prelude.{◌⊎◌, nat_lt}
use Rattle.std.specs.List.{filter, range_with_len}
use Rattle.std.proofs.lemmas.Bool.{cases_lt, ltb-true}
use Rattle.std.proofs.lemmas.List.{map-id}
use Rattle.std.proofs.lemmas.List.FromFn.{filter_of_map_range_with_len_more}
use Rattle.ods_space.specs.Free.{is_covered, is_free_block, storage_bit}
use Rattle.ods_space.specs.Layout.{VolumeLayout}
use Rattle.ods_amend.specs.Runs.{HasNoRun, IsFreeRun, IsLowestRun, free_below}

pub clash : (b : Bool) → b ≡ true → b ≡ false → ⊥
clash b yes_is no_is = let e : true ≡ false = sym yes_is ∙ no_is in absurd (cc)

module _ (I : List (List ℕ)) (L : VolumeLayout) (n : ℕ) where
  -- From `from` on the blocks below `at` are free, and fewer than n. The block before is taken, or there is none; and no run of n ends here or before.
  pub record IsSought (at from : ℕ) : Type 0 where
    pub low : from ≤ at
    pub free : IsFreeRun I L from (at - from)
    pub short : at - from < n
    pub edge : (from ≡ 0) ⊎ (is_free_block I L (from - 1) ≡ false)
    pub none : (k : ℕ) → k + n ≤ at → ¬ IsFreeRun I L k n

  pub begins : 0 < n → IsSought 0 0
  begins some = record {
    low = omega arith;
    free = λ x low high. absurd (omega (arith, low, high));
    short = omega (arith, some);
    edge = inl refl;
    none = λ k few run. absurd (omega (arith, some, few));
  }

  -- where a run of n would begin before `from` and end behind it, the taken block before `from` would be free
  over : (at from k : ℕ) → IsSought at from → k < from → from ≤ k + n → ¬ IsFreeRun I L k n
  over at from k s below past run = by s.edge
    where
      by : (from ≡ 0) ⊎ (is_free_block I L (from - 1) ≡ false) → ⊥
      by (inl zero_is) = absurd (omega (arith, zero_is, below))
      by (inr taken) = clash (is_free_block I L (from - 1)) (run (from - 1) (omega (arith, below)) (omega (arith, below, past))) taken

  pub taken : (at from : ℕ) → IsSought at from → is_free_block I L at ≡ false → IsSought (at + 1) (at + 1)
  taken at from s no_is =
      let short = s.short in
      let before : at + 1 - 1 ≡ at = omega arith in
      record {
        low = omega arith;
        free = λ x low high. absurd (omega (arith, low, high));
        short = omega (arith, short);
        edge = inr (ap (is_free_block I L) before ∙ no_is);
        none = λ k few run. elim (cases_lt at (k + n)) [
          | inl past ↦ clash (is_free_block I L at) (run at (omega (arith, few, short)) past) no_is
          | inr early ↦ s.none k early run
        ];
      }

  pub longer : (at from : ℕ) → IsSought at from → is_free_block I L at ≡ true → at + 1 - from < n → IsSought (at + 1) from
  longer at from s yes_is small =
      let low = s.low in
      record {
        low = omega (arith, low);
        free = λ x above high. elim (cases_lt x at) [
          | inl below ↦ s.free x above (omega (arith, low, below))
          | inr past ↦ (let same : at ≡ x = omega (arith, low, high, past, above) in subst (λ y. is_free_block I L y ≡ true) same yes_is)
        ];
        short = small;
        edge = s.edge;
        none = λ k few run. elim (cases_lt at (k + n)) [
          | inl past ↦ over at from k s (omega (arith, few, past, small, low)) (omega (arith, past, low)) run
          | inr early ↦ s.none k early run
        ];
      }

  pub found : (at from : ℕ) → IsSought at from → is_free_block I L at ≡ true → n ≤ at + 1 - from → IsLowestRun I L n from
  found at from s yes_is enough =
      let low = s.low in let short = s.short in
      record {
        free = λ x above high. elim (cases_lt x at) [
          | inl below ↦ s.free x above (omega (arith, low, below))
          | inr past ↦ (let same : at ≡ x = omega (arith, low, short, high, past, enough) in subst (λ y. is_free_block I L y ≡ true) same yes_is)
        ];
        least = λ k below run. elim (cases_lt at (k + n)) [
          | inl past ↦ over at from k s below (omega (arith, past, low)) run
          | inr early ↦ s.none k early run
        ];
      }

  pub none_left : (len from : ℕ) → len ≡ length I → IsSought len from → HasNoRun I L n
  none_left len from is s lbn run =
      let short = s.short in
      elim (cases_lt len (lbn + n)) [
        | inl past ↦ (
            let last : is_free_block I L (lbn + n - 1) ≡ true = run (lbn + n - 1) (omega (arith, short)) (omega (arith, short)) in
            let inside : lbn + n - 1 < length I = ltb-true (lbn + n - 1) (length I) (front (nat_lt (lbn + n - 1) (length I)) (is_covered L (lbn + n - 1) && storage_bit I L (lbn + n - 1)) last) in
            absurd (omega (arith, is, past, inside))
            )
        | inr early ↦ s.none lbn early run
      ]
    where
      front : (a b : Bool) → (a && b) ≡ true → a ≡ true
      front true b e = refl
      front false b e = absurd (cc e)

-- no block is a run from the first on
pub empty_run : (I : List (List ℕ)) (L : VolumeLayout) (n lbn : ℕ) → n ≡ 0 → lbn ≡ 0 → IsLowestRun I L n lbn
empty_run I L n lbn none first = record { free = λ x low high. absurd (omega (arith, none, low, high)); least = λ k below run. absurd (omega (arith, first, below)) }

-- the free blocks up to one more
pub free_more : (I : List (List ℕ)) (L : VolumeLayout) (at : ℕ) (old new : List ℕ) → old ≡ free_below I L at → new ≡ old ++ cond (is_free_block I L at) (at ∷ []) [] → new ≡ free_below I L (at + 1)
free_more I L at old new before adds =
    adds ∙ ap (λ l. l ++ cond (is_free_block I L at) (at ∷ []) []) before
    ∙ sym (ap (filter (is_free_block I L)) (sym (map-id (range_with_len 0 (at + 1))))
    ∙ filter_of_map_range_with_len_more (is_free_block I L) (λ x. x) 0 at at (omega arith)
    ∙ ap (λ l. filter (is_free_block I L) l ++ cond (is_free_block I L at) (at ∷ []) []) (map-id (range_with_len 0 at)))
