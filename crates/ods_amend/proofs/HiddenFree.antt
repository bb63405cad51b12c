-- The free blocks below an LBN are marked as taken: those that are free then begin at it.
use Rattle.std.proofs.Common.{◌≡◌, ℕ, zero, suc, ◌+◌, ◌-◌, ◌<◌, ◌≤◌, refl, ap, sym, ◌∙◌, subst, Bool, true, false, cond, ◌&&◌, List, [], ◌∷◌, ◌++◌, length, take, arith, inl, inr}
use Rattle.std.specs.Prelude.{nat_le, nat_lt}
use Rattle.std.specs.List.{Contains, filter, range_with_len}
use Rattle.std.proofs.lemmas.Bool.{cases_lt, le-leb, lt-leb, ltb-true}
use Rattle.std.proofs.lemmas.List.Elements.{All-contains, All-filter, filter-append, filter_passes}
use Rattle.std.proofs.lemmas.List.FromFn.{get_or-range_with_len, length-range_with_len}
use Rattle.ods_base.proofs.Filters.{contains_filter}
use Rattle.ods_space.specs.Layout.{VolumeLayout}
use Rattle.ods_space.specs.Free.{free_blocks, is_covered, is_free_block, storage_bit}
use Rattle.ods_alloc.proofs.Scans.{filter_none, range-append}
use Rattle.ods_state.proofs.OnlyBookkeeping.{among_or_not}
use Rattle.ods_amend.specs.Bits.{AreMarked}
use Rattle.ods_amend.specs.Runs.{IsLowestRun, free_below}

filter_all : (p : ℕ → Bool) (a n : ℕ) → ((k : ℕ) → a ≤ k → k < a + n → p k ≡ true) → filter p (range_with_len a n) ≡ range_with_len a n
filter_all p a zero all = refl
filter_all p a (suc n) all =
    let rest : filter p (range_with_len (a + 1) n) ≡ range_with_len (a + 1) n = filter_all p (a + 1) n (λ k low high. all k (omega (arith, low)) (omega (arith, high))) in
    ap (λ b. cond b (a ∷ filter p (range_with_len (a + 1) n)) (filter p (range_with_len (a + 1) n))) (all a (omega arith) (omega arith)) ∙ ap (λ l. a ∷ l) rest

-- of the numbers from 0 on those that pass begin with these n, where none before passes
pub first_passing : (p : ℕ → Bool) (all first n : ℕ) → first + n ≤ all → ((k : ℕ) → k < first → p k ≡ false) → ((k : ℕ) → first ≤ k → k < first + n → p k ≡ true)
    → take n (filter p (range_with_len 0 all)) ≡ range_with_len first n
first_passing p all first n fits none each =
    let rest : ℕ = all - first - n in
    let sum : all ≡ first + (n + rest) = omega (arith, fits) in
    let at : 0 + first ≡ first = omega arith in
    let begin : filter p (range_with_len 0 first) ≡ [] = filter_none p 0 first (λ k low high. none k (omega (arith, high))) in
    let middle : filter p (range_with_len first n) ≡ range_with_len first n = filter_all p first n each in
    let whole : filter p (range_with_len 0 all) ≡ range_with_len first n ++ filter p (range_with_len (first + n) rest) =
    ap (λ m. filter p (range_with_len 0 m)) sum
    ∙ ap (filter p) (range-append 0 first (n + rest) ∙ ap (λ y. range_with_len 0 first ++ range_with_len y (n + rest)) at ∙ ap (λ l. range_with_len 0 first ++ l) (range-append first n rest))
    ∙ filter-append p (range_with_len 0 first) (range_with_len first n ++ range_with_len (first + n) rest)
    ∙ ap (λ l. l ++ filter p (range_with_len first n ++ range_with_len (first + n) rest)) begin
    ∙ filter-append p (range_with_len first n) (range_with_len (first + n) rest)
    ∙ ap (λ l. l ++ filter p (range_with_len (first + n) rest)) middle in
    ap (take n) whole ∙ take_front (range_with_len first n) (filter p (range_with_len (first + n) rest)) n (length-range_with_len first n)
  where
    take_front : (xs ys : List ℕ) (k : ℕ) → length xs ≡ k → take k (xs ++ ys) ≡ xs
    take_front xs ys k size = ap (λ j. take j (xs ++ ys)) (sym size) ∙ by xs
      where
        by : (zs : List ℕ) → take (length zs) (zs ++ ys) ≡ zs
        by [] = refl
        by (z ∷ zs) = ap (λ l. z ∷ l) (by zs)

front_of : (a b : Bool) → (a && b) ≡ true → a ≡ true
front_of true b e = refl
front_of false b e = absurd (cc e)

module _ (I J : List (List ℕ)) (L : VolumeLayout) (first : ℕ) (m : AreMarked I L (free_below I L first) false J) where
  -- those that are hidden stand below
  pub hidden_low : (x : ℕ) → Contains (free_below I L first) x → x < first
  hidden_low x has =
      All-contains (λ y. y < first) (free_below I L first) x
      (All-filter (is_free_block I L) (λ y. y < first) (range_with_len 0 first) (λ i d low. let small = subst (λ n. i < n) (length-range_with_len 0 first) low in let is = get_or-range_with_len 0 first i d small in omega (arith, is, small))) has

  -- and are free
  pub hidden_free : (x : ℕ) → Contains (free_below I L first) x → is_free_block I L x ≡ true
  hidden_free x has = All-contains (λ y. is_free_block I L y ≡ true) (free_below I L first) x (filter_passes (is_free_block I L) (range_with_len 0 first)) has

  hidden_if : (x : ℕ) → x < first → is_free_block I L x ≡ true → Contains (free_below I L first) x
  hidden_if x low free =
      let from_zero : 0 + x ≡ x = omega arith in
      contains_filter (is_free_block I L) (range_with_len 0 first) x (x, subst (λ n. x < n) (sym (length-range_with_len 0 first)) low, get_or-range_with_len 0 first x x low ∙ from_zero) free

  -- a block that is inside and covered
  inside_free : (x : ℕ) → x < length I → is_covered L x ≡ true → is_free_block J L x ≡ (nat_le first x && is_free_block I L x)
  inside_free x inside covered = elim (among_or_not (free_below I L first) x) [
    | inl among ↦ (
        let low = hidden_low x among.1 in
        let no_is : nat_le first x ≡ false = lt-leb first x low in
        m.bits x inside covered ∙ ap (λ o. cond o false (is_free_block I L x)) among.0 ∙ ap (λ l. l && is_free_block I L x) (sym no_is)
        )
    | inr other ↦ m.bits x inside covered ∙ ap (λ o. cond o false (is_free_block I L x)) other.0 ∙ elim (cases_lt x first) [
      | inl low ↦ by_free x low other.1 (is_free_block I L x) refl
      | inr high ↦ ap (λ l. l && is_free_block I L x) (sym (le-leb first x high))
    ]
  ]
    where
      by_free : (x : ℕ) → x < first → ¬ Contains (free_below I L first) x → (b : Bool) → is_free_block I L x ≡ b → b ≡ (nat_le first x && b)
      by_free x low none true e = absurd (none (hidden_if x low e))
      by_free x low none false e = ap (λ l. l && false) (sym (lt-leb first x low))

  -- of the free blocks just those from `first` on are free then
  pub free_hidden : (x : ℕ) → is_free_block J L x ≡ (nat_le first x && is_free_block I L x)
  free_hidden x = by (nat_lt x (length I)) (is_covered L x) refl refl
    where
      here : nat_lt x (length J) ≡ nat_lt x (length I)
      here = ap (λ n. nat_lt x n) m.long

      dead : (b : Bool) → (b && false) ≡ false
      dead true = refl
      dead false = refl

      by : (a c : Bool) → nat_lt x (length I) ≡ a → is_covered L x ≡ c → is_free_block J L x ≡ (nat_le first x && is_free_block I L x)
      by false c ea ec =
          let was : is_free_block I L x ≡ false = ap (λ t. t && (is_covered L x && storage_bit I L x)) ea in
          ap (λ t. t && (is_covered L x && storage_bit J L x)) (here ∙ ea) ∙ sym (dead (nat_le first x)) ∙ ap (λ t. nat_le first x && t) (sym was)
      by true false ea ec =
          let was : is_free_block I L x ≡ false = (λ i. ea i && (ec i && storage_bit I L x)) in
          (λ i. (here ∙ ea) i && (ec i && storage_bit J L x)) ∙ sym (dead (nat_le first x)) ∙ ap (λ t. nat_le first x && t) (sym was)
      by true true ea ec = inside_free x (ltb-true x (length I) ea) ec

  -- the lowest free blocks are the run
  pub run_is_lowest : (n : ℕ) → IsLowestRun I L n first → first + n ≤ length I → take n (free_blocks J L) ≡ range_with_len first n
  unfolding free_blocks
  run_is_lowest n run fits =
      first_passing (is_free_block J L) (length J) first n (subst (λ k. first + n ≤ k) (sym m.long) fits)
      (λ k low. free_hidden k ∙ ap (λ t. t && is_free_block I L k) (lt-leb first k low))
      (λ k low high. free_hidden k ∙ ap (λ t. t && is_free_block I L k) (le-leb first k low) ∙ run.free k low high)
