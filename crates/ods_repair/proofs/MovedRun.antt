-- Blocks that are copied, marked as used and named by a pointer: a run has moved.
use Rattle.std.proofs.Common.{◌≡◌, ◌≢◌, ℕ, ◌+◌, ◌-◌, ◌/◌, ◌%◌, ◌<◌, ◌≤◌, refl, ap, sym, ◌∙◌, subst, true, false, cond, List, [], length, Some, arith, inl, inr}
use Rattle.std.specs.Prelude.{◌⊎◌, slice_get, slice_index, slice_set}
use Rattle.std.specs.Option.{option_map_or}
use Rattle.std.specs.List.{Contains, range_with_len}
use Rattle.std.proofs.lemmas.Bool.{cases_lt, ltb-true}
use Rattle.std.proofs.lemmas.List.{get_or-set_other, get_or-set_same, length-set}
use Rattle.std.proofs.lemmas.List.FromFn.{get_or-range_with_len, length-range_with_len}
use Rattle.std.proofs.lemmas.Option.{same_Some}
use Rattle.ods_base.specs.Block.{has_bit}
use Rattle.ods_base.specs.Image.{block_at}
use Rattle.ods_header.specs.declared.header.Run.{Run}
use Rattle.ods_header.specs.Header.{run_at, runs_of, used_words_of}
use Rattle.ods_header.proofs.RunsAt.{length-runs_of, slice_get-runs_of}
use Rattle.ods_space.specs.Layout.{VolumeLayout, header_at, place_of}
use Rattle.ods_space.specs.Files.{Holds}
use Rattle.ods_space.specs.Free.{is_free_block}
use Rattle.ods_space.proofs.Surveys.{range_push}
use Rattle.ods_alloc.specs.Extend.{IsStorageBitmap, is_one_of}
use Rattle.ods_alloc.specs.Marks.{MarksBlocks}
use Rattle.ods_alloc.proofs.Places.{place_not_storage, stands_in_storage, storage_at}
use Rattle.ods_mount.proofs.Each.{holds_at}
use Rattle.ods_repair.specs.Moved.{CanMove, IsCopied, IsMoved, new_run, run_named}
use Rattle.ods_repair.specs.Repointed.{IsRepointed}
use Rattle.ods_repair.specs.Spare.{AreOnce}
use Rattle.ods_repair.proofs.Cleared.{ClearsOne, one_cleared}
use Rattle.ods_repair.proofs.Moving.{place_held, placed}

-- the first header, and its pointer, read from its block
module _ (I : List (List ℕ)) (L : VolumeLayout) (n at place : ℕ) (b : List ℕ) (stands : place_of L n ≡ Some place) (read : b ≡ block_at I place) (low : at < used_words_of (header_at I L n) / 2) where
  pub header_read : header_at I L n ≡ b
  header_read = ap (λ o. option_map_or (block_at I) o []) stands ∙ sym read

  pub pointer_inside : at < length (runs_of b)
  pointer_inside = let used : used_words_of (header_at I L n) / 2 ≡ used_words_of b / 2 = ap (λ x. used_words_of x / 2) header_read in omega (arith, low, used, length-runs_of b)

  pub run_is : (r : Run) → slice_get (runs_of b) at ≡ Some r → run_named I L n at ≡ r
  run_is r e = ap (λ x. run_at x at) header_read ∙ same_Some (run_at b at) r (sym (slice_get-runs_of b at pointer_inside) ∙ e)

-- no block is copied yet
pub none_copied : (I : List (List ℕ)) (from to : ℕ) → IsCopied I from to 0 I
none_copied I from to = record { long = refl; copied = λ k few. absurd (omega (arith, few)); others = λ b apart. refl }

-- one more is copied
pub one_copied : (I J : List (List ℕ)) (from to k n : ℕ) (c : List ℕ) → k < n → to + n ≤ length I → ((a b : ℕ) → a < n → b < n → to + a ≢ from + b) → IsCopied I from to k J → c ≡ block_at J (from + k)
    → IsCopied I from to (k + 1) (slice_set J (to + k) c)
one_copied I J from to k n c few room apart before is = record {
  long = length-set J (to + k) c ∙ before.long;
  copied = λ j small. elim (cases_lt j k) [
    | inl less ↦ get_or-set_other J (to + k) (to + j) c [] (λ e. absurd (omega (arith, e, less))) ∙ before.copied j less
    | inr more ↦
        let e : j ≡ k = omega (arith, small, more) in
        let there : to + j ≡ to + k = omega (arith, e) in
        let old : block_at J (from + k) ≡ block_at I (from + k) = before.others (from + k) (outside (cases_lt (from + k) to)) in
        ap (block_at (slice_set J (to + k) c)) there ∙ get_or-set_same J (to + k) c [] (let long = before.long in omega (arith, few, room, long)) ∙ is ∙ old ∙ ap (λ x. block_at I (from + x)) (sym e)
  ];
  others = λ b away. get_or-set_other J (to + k) b c [] (λ e. absurd (elim away [ inl low ↦ omega (arith, low, e) | inr high ↦ omega (arith, high, e) ]))
      ∙ before.others b (elim away [ inl low ↦ inl low | inr high ↦ inr (omega (arith, high)) ]);
}
  where
    outside : (from + k < to) ⊎ (to ≤ from + k) → (from + k < to) ⊎ (to + k ≤ from + k)
    outside (inl low) = inl low
    outside (inr high) = elim (cases_lt (from + k) (to + k)) [
      | inl within ↦ absurd (apart (from + k - to) k (omega (arith, within, few, high)) few (omega (arith, high)))
      | inr past ↦ inr past
    ]

-- one more of a range is marked
pub one_marked : (I J K : List (List ℕ)) (L : VolumeLayout) (lbn k : ℕ) → AreOnce L.bitmap → MarksBlocks I L (range_with_len lbn k) false J → ClearsOne J L (lbn + k) K → MarksBlocks I L (range_with_len lbn (k + 1)) false K
one_marked I J K L lbn k once before one = subst (λ xs. MarksBlocks I L xs false K) (sym (range_push lbn k)) (one_cleared I L once J K (range_with_len lbn k) (lbn + k) before one)

module _ (I A B : List (List ℕ)) (L : VolumeLayout) (n at to place : ℕ) (c : List ℕ) (can : CanMove I L n) (low : at < used_words_of (header_at I L n) / 2)
    (free : (x : ℕ) → to ≤ x → x < to + (run_named I L n at).count → is_free_block I L x ≡ true)
    (stands : place_of L n ≡ Some place) (inside : place < length I)
    (copied : IsCopied I (run_named I L n at).lbn to (run_named I L n at).count A) (marked : MarksBlocks A L (new_run I L n at to) false B) (led : IsRepointed (block_at I place) at to c) where
  abbrev count : ℕ
  count = (run_named I L n at).count

  in_new : (b : ℕ) → to ≤ b → b < to + count → Contains (new_run I L n at to) b
  in_new b from below =
      let k : ℕ = b - to in
      let small : k < count = omega (arith, from, below) in
      let is : to + k ≡ b = omega (arith, from) in
      (k, omega (arith, small, length-range_with_len to count), get_or-range_with_len to count k b small ∙ is)

  outside : (b : ℕ) → ¬ Contains (new_run I L n at to) b → (b < to) ⊎ (to + count ≤ b)
  outside b none = elim (cases_lt b to) [
    | inl less ↦ inl less
    | inr more ↦ elim (cases_lt b (to + count)) [
      | inl within ↦ absurd (none (in_new b more within))
      | inr past ↦ inr past
    ]
  ]

  new_unheld : (b q v : ℕ) → to ≤ b → b < to + count → ¬ Holds I L q v b
  new_unheld b q v from below h = can.used q b (v, h, free b from below)

  place_apart : (b : ℕ) → to ≤ b → b < to + count → b ≢ place
  place_apart b from below e = new_unheld b 1 (1 + L.home.index_bitmap_size + n + 1) from below (subst (Holds I L 1 (1 + L.home.index_bitmap_size + n + 1)) (sym e) (place_held I L n can n place stands))

  -- the storage bitmap is no block of the new run, and has not the header
  bitmap_apart : (b : ℕ) → IsStorageBitmap L b → (b ≢ place) × ((b < to) ⊎ (to + count ≤ b))
  bitmap_apart b of =
      let at_b = storage_at L b of in (
        (λ e. place_not_storage L n place (placed I L n can) stands (subst (IsStorageBitmap L) e of)),
        elim (cases_lt b to) [
          | inl less ↦ inl less
          | inr more ↦ elim (cases_lt b (to + count)) [
            | inl within ↦ absurd (new_unheld b 2 (at_b.0 + 1) more within (holds_at I L 2 L.bitmap at_b.0 b can.layout.bitmap at_b.1))
            | inr past ↦ inr past
          ]
        ],
      )

  abbrev J : List (List ℕ)
  J = slice_set B place c

  put_other : (b : ℕ) → b ≢ place → block_at J b ≡ block_at B b
  put_other b other = get_or-set_other B place b c [] other

  header_is : header_at J L n ≡ c
  header_is = ap (λ o. option_map_or (block_at J) o []) stands ∙ get_or-set_same B place c [] (let p = marked.size in let q = copied.long in omega (arith, inside, p, q))

  old_header_is : header_at I L n ≡ block_at I place
  old_header_is = ap (λ o. option_map_or (block_at I) o []) stands

  pub is_moved : IsMoved I L n at to J
  is_moved = record {
    long = length-set B place c ∙ marked.size ∙ copied.long;
    header = subst (λ b. IsRepointed b at to (header_at J L n)) (sym old_header_is) (subst (IsRepointed (block_at I place) at to) (sym header_is) led);
    copied = λ k small.
        let none : ¬ IsStorageBitmap L (to + k) = λ of. elim (bitmap_apart (to + k) of).1 [ inl less ↦ absurd (omega (arith, less)) | inr past ↦ absurd (omega (arith, past, small)) ] in
        put_other (to + k) (place_apart (to + k) (omega arith) (omega (arith, small))) ∙ marked.others (to + k) none ∙ copied.copied k small;
    bits = λ b covered.
        let of : IsStorageBitmap L (slice_index L.bitmap (1 + b / 4096)) = stands_in_storage L b (ltb-true (1 + b / 4096) (length L.bitmap) covered) in
        let apart = bitmap_apart (slice_index L.bitmap (1 + b / 4096)) of in
        ap (λ x. has_bit x (b % 4096)) (put_other (slice_index L.bitmap (1 + b / 4096)) apart.0) ∙ marked.bits b covered
        ∙ ap (λ x. cond (is_one_of (new_run I L n at to) b) false (has_bit x (b % 4096))) (copied.others (slice_index L.bitmap (1 + b / 4096)) apart.1);
    elsewhere = λ b bitmap header none. put_other b (λ e. header (stands ∙ ap Some (sym e))) ∙ marked.others b bitmap ∙ copied.others b (outside b none);
  }
