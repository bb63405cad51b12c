-- What a chain that is to grow asks of the blocks and numbers that are taken: they are free, they rise, and there are enough of them.
use Rattle.std.proofs.Common.{◌≡◌, ◌≢◌, ℕ, suc, ◌+◌, ◌/◌, ◌<◌, ◌≤◌, refl, ap, sym, ◌∙◌, subst, Bool, true, false, IsTrue, nat_le, nat_lt, get_or, List, [], ◌∷◌, length, drop, None, arith, inl, inr}
use Rattle.std.specs.Prelude.{◌⊎◌, ◌&&◌, not}
use Rattle.std.specs.List.{Contains}
use Rattle.std.specs.List.Sorted.{IsStrictlyIncreasing}
use Rattle.std.proofs.lemmas.Bool.{both_ways, cases_eq, ltb-false, or_parts}
use Rattle.std.proofs.lemmas.List.{length-take}
use Rattle.std.proofs.lemmas.List.Elements.{Contains-get_or}
use Rattle.std.proofs.lemmas.List.Kept.{AllPairs-from_increasing}
use Rattle.ods_state.proofs.Chains.{later_in}
use Rattle.ods_header.specs.Header.{room_of, sequence_of}
use Rattle.ods_space.specs.Layout.{VolumeLayout, header_at, is_in_use, last_number}
use Rattle.ods_space.specs.Free.{free_blocks, is_free_number, open_numbers}
use Rattle.ods_alloc.specs.Extend.{CanExtend, cut, headers_needed, last_of}
use Rattle.ods_alloc.proofs.FreeTests.{free_inside}
use Rattle.ods_mount.specs.Sound.{IsSoundBy}
use Rattle.ods_request.specs.declared.refusals.Refusal.{Refusal}
use Rattle.ods_request.specs.Faults.{first_of}
use Rattle.ods_state.specs.Wants.{index_blocks, index_end, index_growth, lack_for, lack_of, new_headers, room_in, allocated_blocks, allocated_count, allocated_numbers}
use Rattle.ods_state.specs.Growth.{IsReady, IsTaking}
use Rattle.ods_state.proofs.GrowthReady.{IsNewFile, IsOldFile, header_stays, seen, allocated_not_bitmap, allocated_not_index, used_stays}
use Rattle.ods_state.proofs.Rising.{blocks_rise, numbers_rise, stands_at}
use Rattle.ods_state.proofs.OpenNumbers.{allocated_number_is_free}
use Rattle.ods_state.proofs.Taken.{new_unused, allocated_block_is_free}

none_of_three : (a b c : Bool) (f g h : Refusal) → first_of ((a, f) ∷ (b, g) ∷ (c, h) ∷ []) ≡ None → (a ≡ false) × (b ≡ false) × (c ≡ false)
none_of_three true b c f g h e = absurd (cc)
none_of_three false true c f g h e = absurd (cc)
none_of_three false false true f g h e = absurd (cc)
none_of_three false false false f g h e = (refl, refl, refl)

-- where nothing is lacking there are so many
pub record IsEnough (I : List (List ℕ)) (L : VolumeLayout) (headers : List ℕ) (count : ℕ) : Type 0 where
  pub blocks : count ≤ length (free_blocks I L)
  pub numbers : allocated_count I L headers count ≤ length (open_numbers I L)
  pub places : count + index_growth L (allocated_numbers I L headers count) ≤ length (free_blocks I L)
  pub room : length (cut (index_blocks I L headers count)) ≤ room_of (header_at I L (index_end I L)) / 2
  pub segments : length headers + allocated_count I L headers count ≤ 256

pub is_enough : (I : List (List ℕ)) (L : VolumeLayout) (headers : List ℕ) (count : ℕ) → lack_of I L headers count ≡ None → IsEnough I L headers count
unfolding lack_for
is_enough I L headers count none =
    let all = none_of_three _ _ _ _ _ _ none in
    let rows = or_parts _ _ all.1 in
    let places = or_parts _ _ rows.1 in
    record {
      blocks = ltb-false (length (free_blocks I L)) count all.0;
      numbers = ltb-false (length (open_numbers I L)) (allocated_count I L headers count) rows.0;
      places = ltb-false (length (free_blocks I L)) (count + index_growth L (allocated_numbers I L headers count)) places.0;
      room = ltb-false (room_of (header_at I L (index_end I L)) / 2) (length (cut (index_blocks I L headers count))) places.1;
      segments = ltb-false 256 (length headers + allocated_count I L headers count) all.2;
    }

-- so as many numbers are taken as are needed
pub so_many_numbers : (I : List (List ℕ)) (L : VolumeLayout) (headers : List ℕ) (count : ℕ) → IsEnough I L headers count → length (allocated_numbers I L headers count) ≡ allocated_count I L headers count
so_many_numbers I L headers count enough = let fits = enough.numbers in omega (arith, length-take (allocated_count I L headers count) (open_numbers I L))

module _ (I K : List (List ℕ)) (L : VolumeLayout) (S : IsSoundBy I L) (n : ℕ) (headers old : List ℕ) (count : ℕ) (numbers : List ℕ)
    (t : IsTaking I L n headers old count numbers) (r : IsReady I K L n headers count) where
  -- the file is there already, or it is new
  abbrev Kind : Type 0
  Kind = IsOldFile I K L n headers old count numbers ⊎ IsNewFile I K L n headers old count numbers

  which : Kind
  which = seen I K L S n headers old count numbers t r

  -- in a new file the first of the taken numbers is below the others
  all_rise : IsNewFile I K L n headers old count numbers → IsStrictlyIncreasing (n ∷ numbers)
  all_rise f = subst IsStrictlyIncreasing (sym f.new) (numbers_rise I L headers count)

  pub number_is_taken : (m : ℕ) → Contains numbers m → Contains (allocated_numbers I L headers count) m
  number_is_taken m c = by which
    where
      by : Kind → Contains (allocated_numbers I L headers count) m
      by (inl o) = subst (λ l. Contains l m) o.new c
      by (inr f) = subst (λ l. Contains l m) f.new (later_in n numbers m c)

  pub not_the_first : (m : ℕ) → Contains numbers m → m ≢ n
  not_the_first m c e = by which
    where
      by : Kind → ⊥
      by (inl o) = both_ways (is_in_use I L.home m) (new_unused S t m (number_is_taken m c)) (subst (λ x. IsTrue (is_in_use I L.home x)) (sym e) o.file.in_use)
      by (inr f) =
          let within = c.1 in
          let less : n < get_or numbers c.0 m = AllPairs-from_increasing (n ∷ numbers) (all_rise f) 0 (suc c.0) m (omega arith) (omega arith) in
          let is : get_or numbers c.0 m ≡ m = c.2 in
          absurd (omega (arith, less, is, e))

  rising : IsStrictlyIncreasing numbers
  rising = by which
    where
      by : Kind → IsStrictlyIncreasing numbers
      by (inl o) = subst IsStrictlyIncreasing (sym o.new) (numbers_rise I L headers count)
      by (inr f) = λ k within. AllPairs-from_increasing (n ∷ numbers) (all_rise f) (suc k) (suc (k + 1)) 0 (omega arith) (omega arith)

  still_free : (m : ℕ) → m ≢ n → is_free_number K L m ≡ is_free_number I L m
  still_free m other =
      let used = used_stays I K L S n headers old count numbers t r m in
      let same = ap sequence_of (header_stays I K L S n headers old count numbers t r m other) in
      λ i. nat_le 6 m && (nat_le m (last_number L) && (not (used i) && nat_lt (same i) 65535))

  -- the last header has the room that was counted on
  same_room : IsOldFile I K L n headers old count numbers → room_of (header_at K L (last_of n (drop 1 headers))) ≡ room_in I L headers
  same_room o = by (cases_eq (last_of n (drop 1 headers)) n) ∙ sym (ap (room_in I L) o.is)
    where
      by : (last_of n (drop 1 headers) ≡ n) ⊎ (last_of n (drop 1 headers) ≢ n) → room_of (header_at K L (last_of n (drop 1 headers))) ≡ room_of (header_at I L (last_of n (drop 1 headers)))
      by (inl e) = ap (λ m. room_of (header_at K L m)) e ∙ o.kept.room ∙ sym (ap (λ m. room_of (header_at I L m)) e)
      by (inr other) = ap room_of (header_stays I K L S n headers old count numbers t r (last_of n (drop 1 headers)) other)

  abbrev runs : ℕ
  runs = length (cut (allocated_blocks I L count))

  enough : length numbers ≡ headers_needed (room_of (header_at K L (last_of n (drop 1 headers))) / 2) runs
  enough = by which
    where
      many : length (allocated_numbers I L headers count) ≡ new_headers (length headers) (room_in I L headers) runs
      many = so_many_numbers I L headers count (is_enough I L headers count t.enough)

      by : Kind → length numbers ≡ headers_needed (room_of (header_at K L (last_of n (drop 1 headers))) / 2) runs
      by (inl o) = ap length o.new ∙ many ∙ ap (λ l. new_headers (length l) (room_in I L headers) runs) o.is ∙ ap (λ room. headers_needed (room / 2) runs) (sym (same_room o))
      by (inr f) =
          let room : room_of (header_at K L (last_of n (drop 1 headers))) ≡ 204 = ap (λ l. room_of (header_at K L (last_of n (drop 1 l)))) f.none ∙ f.made.room in
          let all : length (n ∷ numbers) ≡ 1 + headers_needed 102 runs = ap length f.new ∙ many ∙ ap (λ l. new_headers (length l) (room_in I L l) runs) f.none in
          let one : length numbers ≡ headers_needed 102 runs = omega (arith, all) in
          one ∙ ap (λ x. headers_needed (x / 2) runs) (sym room)

  segments : length (drop 1 headers) + length numbers < 256
  segments = by which
    where
      few : length headers + length (allocated_numbers I L headers count) ≤ 256
      few = let e = is_enough I L headers count t.enough in let fits = e.segments in omega (arith, so_many_numbers I L headers count e)

      by : Kind → length (drop 1 headers) + length numbers < 256
      by (inl o) = omega (arith, few, ap length o.is, ap length o.new)
      by (inr f) = omega (arith, few, ap length (ap (drop 1) f.none), ap length f.new)

  pub can_extend : CanExtend K L n (drop 1 headers) (allocated_blocks I L count) numbers
  can_extend = record {
    file = t.above;
    ascending = blocks_rise I L count;
    inside = λ k d below.
        let x : ℕ = get_or (allocated_blocks I L count) k d in
        subst (λ s. x < s) (sym r.long) (free_inside I L x (allocated_block_is_free I L count x (Contains-get_or (allocated_blocks I L count) k d below)));
    apart = λ b c. (
      λ among. let at = stands_at L.index b among in allocated_not_index I L S count b at.0 c at.1,
      λ among. let at = stands_at L.bitmap b among in allocated_not_bitmap I L S count b at.0 c at.1,
    );
    free = λ k d below.
        let m : ℕ = get_or numbers k d in
        let c : Contains numbers m = Contains-get_or numbers k d below in
        still_free m (not_the_first m c) ∙ allocated_number_is_free I L headers count m t.no_growth (number_is_taken m c);
    rising = rising;
    new = λ c. not_the_first n c refl;
    enough = enough;
    segments = segments;
  }
