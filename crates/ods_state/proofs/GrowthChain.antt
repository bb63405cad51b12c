-- The chain of a file whose first header is written, with its number in use: it is the chain that the file had, and that of a new file is this header alone.
use Rattle.std.proofs.Common.{◌≡◌, ◌≢◌, ℕ, zero, ◌+◌, ◌-◌, ◌*◌, ◌/◌, ◌%◌, ◌^◌, ◌<◌, ◌≤◌, refl, ap, sym, ◌∙◌, subst, true, cond, nat_eq, nat_le, nat_lt, IsTrue, List, [], length, drop, Option, Some, None, arith, inl, inr}
use Rattle.std.specs.Prelude.{◌⊎◌, bit_or, slice_set}
use Rattle.std.specs.Option.{option_map_or}
use Rattle.std.specs.Int.{bit_at}
use Rattle.std.specs.List.{Contains, flat_map}
use Rattle.std.proofs.lemmas.Bool.{and_parts, cases_eq, eq-eqb, eqb-true, ne_eqb}
use Rattle.std.proofs.lemmas.List.{get_or-set_other, get_or-set_same, set-get_or}
use Rattle.std.proofs.lemmas.Nat.Bits.{bit_at_or, bit_at-lt, bit_at-pow_same}
use Rattle.ods_state.proofs.Bookkeeping.{bitmap_holds, index_holds, well_placed}
use Rattle.ods_base.specs.Block.{byte, has_bit}
use Rattle.ods_base.specs.Image.{IsImage, block_at}
use Rattle.ods_header.specs.declared.home.Home.{Home}
use Rattle.ods_header.specs.Header.{IsValidHeader, blocks_of, next_number_of, run_blocks, segment_of}
use Rattle.ods_space.specs.Layout.{VolumeLayout, place_of, header_at, is_in_use}
use Rattle.ods_space.specs.Chain.{Follows, IsChain, index_for}
use Rattle.ods_space.specs.Files.{IsFile}
use Rattle.ods_alloc.specs.Extend.{with_bit, with_in_use}
use Rattle.ods_alloc.proofs.Chained.{set_byte}
use Rattle.ods_alloc.proofs.FreeTests.{IsFreeNumber, free_number}
use Rattle.ods_alloc.proofs.Places.{in_use_is, place_not_index}
use Rattle.ods_mount.specs.Sound.{IsSoundBy}
use Rattle.ods_state.specs.Growth.{IsReady, IsTaking}
use Rattle.ods_state.proofs.GrowthReady.{IsNewFile, IsOldFile, elsewhere, header_stays, held_stays, index_stays, seen, used_stays}
use Rattle.ods_state.proofs.Links.{LinkedAt, header_is_no_data, linked_same}
use Rattle.ods_state.proofs.OneBlock.{held_inside}
use Rattle.ods_state.proofs.Still.{IsStill, chain_kept}
use Rattle.ods_state.proofs.OpenNumbers.{allocated_number_is_free}

-- a bit that is set in a block that has it
bit_set : (b : List ℕ) (i : ℕ) → i / 8 < length b → has_bit (with_bit b i) i ≡ true
bit_set b i inside =
    let x : ℕ = byte b (i / 8) in
    let new : byte (with_bit b i) (i / 8) ≡ bit_or x (2 ^ (i % 8)) = get_or-set_same b (i / 8) _ 0 inside ∙ set_byte x (i % 8) in
    let one : bit_at (2 ^ (i % 8)) (i % 8) ≡ 1 = bit_at-pow_same (i % 8) in
    let value : bit_at (bit_or x (2 ^ (i % 8))) (i % 8) ≡ 1 = omega (arith, bit_at_or x (2 ^ (i % 8)) (i % 8), one, bit_at-lt x (i % 8)) in
    ap (λ y. nat_eq (bit_at y (i % 8)) 1) new ∙ eq-eqb (bit_at (bit_or x (2 ^ (i % 8))) (i % 8)) 1 value

-- a bit that is set already
bit_same : (b : List ℕ) (i : ℕ) → has_bit b i ≡ true → with_bit b i ≡ b
bit_same b i set =
    let one : bit_at (byte b (i / 8)) (i % 8) ≡ 1 = eqb-true (bit_at (byte b (i / 8)) (i % 8)) 1 set in
    let none : byte b (i / 8) + (1 - 1) * 2 ^ (i % 8) ≡ byte b (i / 8) = omega arith in
    ap (λ t. slice_set b (i / 8) (byte b (i / 8) + (1 - t) * 2 ^ (i % 8))) one ∙ ap (slice_set b (i / 8)) none ∙ set-get_or b (i / 8) 0

-- a number that is in use already
in_use_same : (K : List (List ℕ)) (h : Home) (n : ℕ) → IsTrue (is_in_use K h n) → with_in_use K h n ≡ K
in_use_same K h n used =
    let p : ℕ = h.index_bitmap_lbn + (n - 1) / 4096 in
    let a = and_parts (nat_lt 0 n) _ used in
    let b = and_parts (nat_le n (4096 * h.index_bitmap_size)) _ a.1 in
    ap (slice_set K p) (bit_same (block_at K p) ((n - 1) % 4096) b.1) ∙ set-get_or K p []

module _ (I K : List (List ℕ)) (L : VolumeLayout) (S : IsSoundBy I L) (n : ℕ) (headers old : List ℕ) (count : ℕ) (numbers : List ℕ)
    (t : IsTaking I L n headers old count numbers) (r : IsReady I K L n headers count) where
  -- where the file is there, nothing moves
  pub still : IsOldFile I K L n headers old count numbers → IsStill I K L
  still o = record {
    long = r.long;
    linked = linked;
    back = back;
    bitmap = λ i x e. held_stays I K L S n headers old count numbers t r 2 (i + 1) x (bitmap_holds I L S i x e) (λ p. let same = header_is_no_data I L S n x 2 (i + 1) p (bitmap_holds I L S i x e) in absurd (omega (arith, same)));
    elsewhere = elsewhere I K L S n headers old count numbers t r;
  }
    where
      used : (m : ℕ) → is_in_use K L.home m ≡ is_in_use I L.home m
      used = used_stays I K L S n headers old count numbers t r

      same : (m : ℕ) → m ≢ n → header_at K L m ≡ header_at I L m
      same = header_stays I K L S n headers old count numbers t r

      linked : (m : ℕ) → LinkedAt I K L.home L.index m
      linked m = by (cases_eq m n)
        where
          by : (m ≡ n) ⊎ (m ≢ n) → LinkedAt I K L.home L.index m
          by (inl e) = subst (LinkedAt I K L.home L.index) (sym e) (record { links = o.kept.links; used = used n })
          by (inr other) = linked_same I K L.home L.index m (same m other) (used m)

      back : (m : ℕ) → LinkedAt K I L.home L.index m
      back m = by (cases_eq m n)
        where
          by : (m ≡ n) ⊎ (m ≢ n) → LinkedAt K I L.home L.index m
          by (inl e) = subst (LinkedAt K I L.home L.index) (sym e) (record { links = o.kept.back; used = sym (used n) })
          by (inr other) = linked_same K I L.home L.index m (sym (same m other)) (sym (used m))

  old_chain : IsOldFile I K L n headers old count numbers → IsChain (with_in_use K L.home n) L n (drop 1 headers) old
  old_chain o =
      let is : with_in_use K L.home n ≡ K = in_use_same K L.home n (used_stays I K L S n headers old count numbers t r n ∙ o.file.in_use) in
      subst (λ C. IsChain C L n (drop 1 headers) old) (sym is) (chain_kept I K L S (still o) n (drop 1 headers) old o.chain)

  module _ (image : IsImage I) (f : IsNewFile I K L n headers old count numbers) (C : List (List ℕ)) (is : C ≡ with_in_use K L.home n) where
    free : IsFreeNumber I L n
    free = free_number I L n (allocated_number_is_free I L headers count n t.no_growth (subst (λ l. Contains l n) f.new (zero, omega arith, refl)))

    few : n ≤ 4096 * L.home.index_bitmap_size
    few = let high = free.high in omega arith

    low : (n - 1) / 4096 < L.home.index_bitmap_size
    low = let above = t.above in let bound = few in omega arith

    -- where the index bit of n stands
    abbrev bits : ℕ
    bits = L.home.index_bitmap_lbn + (n - 1) / 4096

    inside : bits < length K
    inside = let at = (n - 1) / 4096 in
        subst (λ k. bits < k) (sym r.long) (held_inside I L S 1 (2 + at + 1) bits [] (index_holds I L S (2 + at) bits (S.index_place at (let bound = low in omega arith))))

    whole : length (block_at K bits) ≡ 512
    whole = ap length (index_stays I K L S n headers old count numbers t r ((n - 1) / 4096) low) ∙ (image.blocks bits [] (subst (λ k. bits < k) r.long inside)).size

    -- the header stands in another block
    header_there : header_at C L n ≡ header_at K L n
    header_there = by (place_of L n) refl
      where
        by : (o : Option ℕ) → place_of L n ≡ o → option_map_or (block_at C) o [] ≡ option_map_or (block_at K) o []
        by None e = refl
        by (Some q) e =
            let bound = low in
            let away : q ≢ bits = λ same. place_not_index L n q (well_placed I L S) e (omega arith, omega arith) in
            ap (λ X. block_at X q) is ∙ get_or-set_other K bits q _ [] away

    used : is_in_use C L.home n ≡ true
    used =
        let above = t.above in
        let long = whole in
        in_use_is C L n (omega arith) few ∙ ap (λ X. has_bit (block_at X bits) ((n - 1) % 4096)) is
        ∙ ap (λ b. has_bit b ((n - 1) % 4096)) (get_or-set_same K bits _ [] inside) ∙ bit_set (block_at K bits) ((n - 1) % 4096) (omega (arith, long))

    alone : Follows C L.home (Some L.index) [] 0 n [] []
    alone =
        let above = t.above in (
          record {
            first = omega arith;
            last = free.high;
            in_use = used;
            valid = subst (λ b. IsValidHeader b n) (sym header_there) f.made.valid;
            segment = ap segment_of header_there ∙ f.made.segment;
          },
          ap next_number_of header_there ∙ f.made.alone,
          sym (ap blocks_of header_there ∙ ap (flat_map run_blocks) f.made.pointers),
        )

    new_chain : IsChain C L n (drop 1 headers) old
    new_chain =
        let above = t.above in
        let index : index_for L n ≡ Some L.index = ap (λ z. cond z None (Some L.index)) (ne_eqb n 1 (λ e. absurd (omega arith))) in
        subst (λ l. IsChain C L n l old) (sym (ap (drop 1) f.none)) (subst (λ l. IsChain C L n [] l) (sym f.nothing) (subst (λ o. Follows C L.home o [] 0 n [] []) (sym index) alone))

  -- the image is one of whole blocks, so that a new number has its bit
  pub ready_chain : IsImage I → IsChain (with_in_use K L.home n) L n (drop 1 headers) old
  ready_chain image = by (seen I K L S n headers old count numbers t r)
    where
      by : IsOldFile I K L n headers old count numbers ⊎ IsNewFile I K L n headers old count numbers → IsChain (with_in_use K L.home n) L n (drop 1 headers) old
      by (inl o) = old_chain o
      by (inr f) = new_chain image f (with_in_use K L.home n) refl

  -- where the file is there, its first header is in use already
  pub kept_chain : IsImage I → IsFile I L n → IsChain K L n (drop 1 headers) old
  kept_chain image f =
      subst (λ C. IsChain C L n (drop 1 headers) old) (in_use_same K L.home n (used_stays I K L S n headers old count numbers t r n ∙ f.in_use)) (ready_chain image)
