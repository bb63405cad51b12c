-- Counts that are made anew one after another, where a draft changes what is counted.
use Rattle.std.proofs.Common.{◌≡◌, ℕ, ◌+◌, ◌-◌, ◌<◌, ◌≤◌, ◌⊎◌, List, None, map, length, get_or, set, refl, sym, ap, subst, ◌∙◌, arith, inl, inr}
use Rattle.std.specs.List.{range_with_len}
use Rattle.std.proofs.lemmas.Bool.{cases_lt, cases_eq}
use Rattle.std.proofs.lemmas.List.{length-set, get_or-set_same, get_or-set_other}
use Rattle.std.proofs.lemmas.List.FromFn.{fill_by_all, length-map-range_with_len, get_or-map-range_with_len}
use Rattle.ods_base.specs.Image.{block_at}
use Rattle.ods_space.specs.Layout.{VolumeLayout}
use Rattle.ods_space.specs.Draft.{Changes, applied, change_at}
use Rattle.ods_space.proofs.Drafts.{length-applied}
use Rattle.ods_alloc.specs.declared.counting.Bitmap.{Bitmap}
use Rattle.ods_alloc.specs.declared.counting.Bitmap.TheVariants.{Storage, Index}
use Rattle.ods_alloc.specs.Bitmaps.{AreKept, IsNextChanged, IsStretch, count_in, counted, counts_in, place_in, size_of}
use Rattle.ods_alloc.specs.Counts.{clear_counts, free_counts}
use Rattle.ods_alloc.proofs.Counted.{clear_in_is, free_in_is, kept_block, past_block}

-- Of n numbers the first k are new, and the others are still the old ones.
pub record IsPartly (old new : ℕ → ℕ) (n k : ℕ) (xs : List ℕ) : Type 0 where
  pub size : length xs ≡ n
  pub done : (j : ℕ) → j < k → get_or xs j 0 ≡ new j
  pub left : (j : ℕ) → k ≤ j → j < n → get_or xs j 0 ≡ old j

module _ (old new : ℕ → ℕ) (n : ℕ) where
  pub partly_none : (xs : List ℕ) → xs ≡ map old (range_with_len 0 n) → IsPartly old new n 0 xs
  partly_none xs is = record {
    size = ap length is ∙ length-map-range_with_len old 0 n;
    done = λ j low. absurd (omega arith);
    left = λ j above low. ap (λ l. get_or l j 0) is ∙ get_or-map-range_with_len old 0 n j j 0 low (omega arith);
  }

  pub partly_set : (k x : ℕ) (xs : List ℕ) → k < n → IsPartly old new n k xs → x ≡ new k → IsPartly old new n (k + 1) (set xs k x)
  partly_set k x xs within before is =
      let inside : k < length xs = omega (arith, before.size) in
      record {
        size = length-set xs k x ∙ before.size;
        done = λ j low. elim (cases_eq j k) [
          | inl same ↦ ap (λ m. get_or (set xs k x) m 0) same ∙ get_or-set_same xs k x 0 inside ∙ is ∙ ap new (sym same)
          | inr other ↦ get_or-set_other xs k j x 0 other ∙ before.done j (omega (arith, low, other))
        ];
        left = λ j above low. let other : j ≡ k → ⊥ = λ e. absurd (omega (arith, above, e)) in get_or-set_other xs k j x 0 other ∙ before.left j (omega arith) low;
      }

  pub partly_all : (k : ℕ) (xs : List ℕ) → n ≤ k → IsPartly old new n k xs → xs ≡ map new (range_with_len 0 n)
  partly_all k xs all before = fill_by_all new xs n 0 before.size (λ j low. before.done j (omega arith))

  -- those that stay are passed over at once
  pub partly_passed : (k m : ℕ) (xs : List ℕ) → k ≤ m → m ≤ n → IsPartly old new n k xs → ((j : ℕ) → k ≤ j → j < m → new j ≡ old j) → IsPartly old new n m xs
  partly_passed k m xs order within before same = record {
    size = before.size;
    done = λ j low. elim (cases_lt j k) [
      | inl earlier ↦ before.done j earlier
      | inr here ↦ before.left j here (omega (arith, low, within)) ∙ sym (same j here low)
    ];
    left = λ j above low. before.left j (omega (arith, above, order)) low;
  }

-- The counts of a bitmap, before a draft and after it.
abbrev pub ArePartlyNew : List (List ℕ) → Changes → VolumeLayout → Bitmap → ℕ → List ℕ → Type 0
ArePartlyNew I d L m k xs = IsPartly (count_in I L m) (count_in (applied I d) L m) (size_of L m) k xs

-- a count is one of the bits of a block
pub count_is : (I : List (List ℕ)) (L : VolumeLayout) (m : Bitmap) (k : ℕ) → k < size_of L m → count_in I L m k ≡ counted (length I) m k (block_at I (place_in L m k))
count_is I L Storage k within = free_in_is I L k within
count_is I L Index k within = clear_in_is I L.home k within

counts_are : (I : List (List ℕ)) (L : VolumeLayout) (m : Bitmap) → counts_in I L m ≡ map (count_in I L m) (range_with_len 0 (size_of L m))
unfolding free_counts clear_counts
counts_are I L Storage = refl
counts_are I L Index = refl

module _ (I : List (List ℕ)) (d : Changes) (L : VolumeLayout) (m : Bitmap) where
  kept_counts : (j : ℕ) → j < size_of L m → block_at (applied I d) (place_in L m j) ≡ block_at I (place_in L m j) → count_in (applied I d) L m j ≡ count_in I L m j
  kept_counts j within kept =
      count_is (applied I d) L m j within ∙ ap (λ n. counted n m j (block_at (applied I d) (place_in L m j))) (length-applied I d)
      ∙ ap (counted (length I) m j) kept ∙ sym (count_is I L m j within)

  pub recount_passed : (k next : ℕ) (xs : List ℕ) → ArePartlyNew I d L m k xs → IsNextChanged I (applied I d) L m k next → ArePartlyNew I d L m next xs
  recount_passed k next xs before is =
      let high = is.within in
      partly_passed (count_in I L m) (count_in (applied I d) L m) (size_of L m) k next xs is.above is.within before (λ j above below. kept_counts j (omega (arith, high, below)) (is.kept j above below))

  pub recount_begun : (first : ℕ) (xs : List ℕ) → xs ≡ counts_in I L m → IsNextChanged I (applied I d) L m 0 first → ArePartlyNew I d L m first xs
  recount_begun first xs are is = recount_passed 0 first xs (partly_none (count_in I L m) (count_in (applied I d) L m) (size_of L m) xs (are ∙ counts_are I L m)) is

  -- a count that is left is one of the old block
  pub count_left : (k len : ℕ) (xs b : List ℕ) → k < size_of L m → len ≡ length I → ArePartlyNew I d L m k xs → b ≡ block_at I (place_in L m k) → get_or xs k 0 ≡ counted len m k b
  count_left k len xs b within size before read =
      before.left k (omega arith) within ∙ count_is I L m k within ∙ ap (λ n. counted n m k (block_at I (place_in L m k))) (sym size) ∙ ap (counted len m k) (sym read)

  pub recounted : (k next len count : ℕ) (xs b : List ℕ) → k < size_of L m → len ≡ length I → ArePartlyNew I d L m k xs → b ≡ block_at (applied I d) (place_in L m k) → count ≡ counted len m k b
      → IsNextChanged I (applied I d) L m (k + 1) next → ArePartlyNew I d L m next (set xs k count)
  recounted k next len count xs b within size before read is =
      recount_passed (k + 1) next (set xs k count)
      (partly_set (count_in I L m) (count_in (applied I d) L m) (size_of L m) k count xs within before
      (is ∙ ap (counted len m k) read ∙ ap (λ n. counted n m k (block_at (applied I d) (place_in L m k))) (size ∙ sym (length-applied I d)) ∙ sym (count_is (applied I d) L m k within)))

  pub recount_done : (k : ℕ) (xs : List ℕ) → size_of L m ≤ k → ArePartlyNew I d L m k xs → xs ≡ counts_in (applied I d) L m
  recount_done k xs all before = partly_all (count_in I L m) (count_in (applied I d) L m) (size_of L m) k xs all before ∙ sym (counts_are (applied I d) L m)

  -- where no block changes, the counts stay
  pub counts_stay : (k : ℕ) → k ≡ size_of L m → IsNextChanged I (applied I d) L m 0 k → counts_in (applied I d) L m ≡ counts_in I L m
  counts_stay k all is = sym (recount_done k (counts_in I L m) (omega (arith, all)) (recount_begun k (counts_in I L m) refl is))

  -- a stretch of blocks from k on, of which the first t do not change: each stands below the next change, or past the image
  pub kept_further : (a k many first lbn t : ℕ) → AreKept I (applied I d) L m a k → IsStretch L m k many → first ≡ place_in L m k → ((x : ℕ) → first ≤ x → x < lbn → change_at d x ≡ None) → t ≤ many
      → ((j : ℕ) → j < t → (first + j < lbn) ⊎ (length I ≤ first + j)) → AreKept I (applied I d) L m a (k + t)
  kept_further a k many first lbn t before s is none few each j above below = elim (cases_lt j k) [
    | inl earlier ↦ before j above earlier
    | inr here ↦
        let i : ℕ = j - k in
        let place : first + i ≡ place_in L m j = ap (λ n. n + i) is ∙ sym (s.places i (omega (arith, few, below, here))) ∙ ap (place_in L m) (omega (arith, here)) in
        let P : ℕ → Type 0 = λ x. block_at (applied I d) x ≡ block_at I x in
        subst P place (elim (each i (omega (arith, below, here))) [
          | inl low ↦ kept_block I d (first + i) (none (first + i) (omega arith) low)
          | inr past ↦ past_block I d (first + i) past
        ])
  ]
