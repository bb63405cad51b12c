-- The run that a pointer of a file's first header names: the file holds its blocks, and the header has a block of its own.
use Rattle.std.proofs.Common.{◌≡◌, ◌≢◌, ℕ, ◌+◌, ◌-◌, ◌/◌, ◌<◌, ◌≤◌, ap, sym, ◌∙◌, subst, true, false, cond, List, [], ◌∷◌, ◌++◌, length, get_or, None, Some, arith}
use Rattle.std.specs.Prelude.{◌==◌, slice_get}
use Rattle.std.proofs.lemmas.Bool.{ne_eqb}
use Rattle.std.proofs.lemmas.List.{append-nil, append_assoc}
use Rattle.std.proofs.lemmas.List.FromFn.{length-range_with_len}
use Rattle.std.proofs.lemmas.Option.{get_or_from_slice_get, slice_get_within}
use Rattle.ods_header.specs.Header.{blocks_of, run_blocks, used_words_of}
use Rattle.ods_space.specs.Layout.{VolumeLayout, header_at, place_of}
use Rattle.ods_space.specs.Chain.{Follows}
use Rattle.ods_space.specs.Files.{Holds}
use Rattle.ods_space.specs.Free.{is_free_block}
use Rattle.ods_space.proofs.Chains.{front_begins}
use Rattle.ods_space.proofs.Surveys.{slice_get-append_left, slice_get-append_right, slice_get-run_blocks}
use Rattle.ods_alloc.proofs.FreeTests.{free_inside}
use Rattle.ods_alloc.proofs.Places.{place_in_index}
use Rattle.ods_mount.proofs.Each.{holds_at}
use Rattle.ods_repair.specs.Moved.{CanMove, run_named}
use Rattle.ods_repair.proofs.Moving.{placed}
use Rattle.ods_repair.proofs.Repointed.{back_of, front_of, parted_blocks}

-- a chain begins with the blocks of its first header
begins_with : (I : List (List ℕ)) (L : VolumeLayout) (n : ℕ) (ms blocks : List ℕ) → Follows I L.home (Some L.index) [] 0 n ms blocks → (rest : List ℕ) × (blocks ≡ blocks_of (header_at I L n) ++ rest)
begins_with I L n [] blocks f = ([], f.2 ∙ sym (append-nil (blocks_of (header_at I L n))))
begins_with I L n (m ∷ ms) blocks f = front_begins I L.home (Some L.index) (blocks_of (header_at I L n)) 1 m ms blocks f.4

module _ (I : List (List ℕ)) (L : VolumeLayout) (n at : ℕ) (can : CanMove I L n) (low : at < used_words_of (header_at I L n) / 2) where
  abbrev count : ℕ
  count = (run_named I L n at).count

  abbrev more : ℕ
  more = used_words_of (header_at I L n) / 2 - at - 1

  first_blocks : (rest : List ℕ) × (can.blocks ≡ blocks_of (header_at I L n) ++ rest)
  first_blocks =
      let no : (n == 1) ≡ false = ne_eqb n 1 (λ e. absurd (omega (arith, e, can.other))) in
      begins_with I L n can.has.others can.blocks (subst (λ z. Follows I L.home (cond z None (Some L.index)) [] 0 n can.has.others can.blocks) no can.has.whole.chain)

  parts : can.blocks ≡ front_of (header_at I L n) at ++ (run_blocks (run_named I L n at) ++ (back_of (header_at I L n) at more ++ first_blocks.0))
  parts =
      first_blocks.1 ∙ ap (λ l. l ++ first_blocks.0) (parted_blocks (header_at I L n) at more (omega (arith, low)))
      ∙ append_assoc (front_of (header_at I L n) at) (run_blocks (run_named I L n at) ++ back_of (header_at I L n) at more) first_blocks.0
      ∙ ap (λ l. front_of (header_at I L n) at ++ l) (append_assoc (run_blocks (run_named I L n at)) (back_of (header_at I L n) at more) first_blocks.0)

  -- the file holds each block of the run, at its place
  pub run_at_place : (k : ℕ) → k < count → slice_get can.blocks (length (front_of (header_at I L n) at) + k) ≡ Some ((run_named I L n at).lbn + k)
  run_at_place k small =
      let run = run_blocks (run_named I L n at) in
      let rest = back_of (header_at I L n) at more ++ first_blocks.0 in
      ap (λ l. slice_get l (length (front_of (header_at I L n) at) + k)) parts ∙ slice_get-append_right (front_of (header_at I L n) at) (run ++ rest) k
      ∙ slice_get-append_left run rest k (omega (arith, small, length-range_with_len (run_named I L n at).lbn count)) ∙ slice_get-run_blocks (run_named I L n at) k small

  pub run_held : (k : ℕ) → k < count → Holds I L n (length (front_of (header_at I L n) at) + k + 1) ((run_named I L n at).lbn + k)
  run_held k small = holds_at I L n can.blocks (length (front_of (header_at I L n) at) + k) ((run_named I L n at).lbn + k) can.has (run_at_place k small)

  pub run_inside : (run_named I L n at).lbn + count ≤ length I
  run_inside =
      let e = run_at_place (count - 1) (omega arith) in
      let last = can.has.whole.inside (length (front_of (header_at I L n) at) + (count - 1)) 0 (slice_get_within can.blocks _ _ e) in
      let is : get_or can.blocks (length (front_of (header_at I L n) at) + (count - 1)) 0 ≡ (run_named I L n at).lbn + (count - 1) = get_or_from_slice_get can.blocks _ _ 0 e in
      omega (arith, last, is)

  -- the header stands in a block of the image
  pub place_inside : (x : ℕ) → place_of L n ≡ Some x → x < length I
  place_inside x e =
      let stands = (place_in_index L n x (placed I L n can) e).1 in
      let is : get_or L.index _ 0 ≡ x = get_or_from_slice_get L.index _ x 0 stands in
      let inside = can.layout.index.whole.inside _ 0 (slice_get_within L.index _ x stands) in
      omega (arith, is, inside)

  module _ (to : ℕ) (free : (x : ℕ) → to ≤ x → x < to + count → is_free_block I L x ≡ true) where
    pub new_inside : to + count ≤ length I
    new_inside = let last = free_inside I L (to + (count - 1)) (free (to + (count - 1)) (omega arith) (omega arith)) in omega (arith, last)

    pub runs_apart : (k j : ℕ) → k < count → j < count → to + k ≢ (run_named I L n at).lbn + j
    runs_apart k j small few e = can.used n (to + k) (length (front_of (header_at I L n) at) + j + 1, subst (Holds I L n (length (front_of (header_at I L n) at) + j + 1)) (sym e) (run_held j few), free (to + k) (omega arith) (omega (arith, small)))
