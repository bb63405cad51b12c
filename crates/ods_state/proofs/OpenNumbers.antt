-- The numbers that new headers may get: they ascend, and where the last one taken has a block, all that are taken are free.
use Rattle.std.proofs.Common.{◌≡◌, ◌≢◌, ℕ, zero, suc, ◌+◌, ◌<◌, ◌≤◌, refl, true, IsTrue, nat_le, nat_lt, List, [], ◌∷◌, arith, inl, inr, ◌&&◌, not}
use Rattle.std.specs.Prelude.{◌⊎◌}
use Rattle.std.specs.List.{Contains, range_with_len}
use Rattle.std.specs.List.Sorted.{IsStrictlyIncreasing}
use Rattle.std.proofs.lemmas.Bool.{and_parts, cases_eq, le-leb}
use Rattle.std.proofs.lemmas.List.Elements.{All-contains, All-take, filter_passes}
use Rattle.std.proofs.lemmas.List.Kept.{AllPairs-from_increasing}
use Rattle.std.proofs.lemmas.Map.Made.{Contains-tail}
use Rattle.ods_header.specs.Header.{sequence_of}
use Rattle.ods_space.specs.Layout.{VolumeLayout, greatest_number, header_at, is_in_use, last_number}
use Rattle.ods_space.specs.Free.{is_free_number, is_open_number, open_numbers}
use Rattle.ods_alloc.specs.Extend.{last_of}
use Rattle.ods_state.specs.Wants.{index_growth, allocated_count, allocated_numbers}
use Rattle.ods_state.proofs.Rising.{numbers_rise}

none_in : (x : ℕ) → ¬ Contains [] x
none_in x c = let low = c.1 in absurd (omega arith)

tail_rises : (y : ℕ) (ys : List ℕ) → IsStrictlyIncreasing (y ∷ ys) → IsStrictlyIncreasing ys
tail_rises y ys rises k within = AllPairs-from_increasing (y ∷ ys) rises (suc k) (suc (k + 1)) 0 (omega arith) (omega arith)

-- of numbers that ascend the last one is the greatest
pub up_to_last : (d : ℕ) (xs : List ℕ) → IsStrictlyIncreasing xs → (x : ℕ) → Contains xs x → x ≤ last_of d xs
up_to_last d [] rises x c = absurd (none_in x c)
up_to_last d (y ∷ []) rises x c = by (cases_eq y x)
  where
    by : (y ≡ x) ⊎ (y ≢ x) → x ≤ y
    by (inl e) = omega (arith, e)
    by (inr ne) = absurd (none_in x (Contains-tail y [] x ne c))
up_to_last d (y ∷ z ∷ zs) rises x c = by (cases_eq y x) (up_to_last y (z ∷ zs) (tail_rises y (z ∷ zs) rises))
  where
    by : (y ≡ x) ⊎ (y ≢ x) → ((w : ℕ) → Contains (z ∷ zs) w → w ≤ last_of y (z ∷ zs)) → x ≤ last_of y (z ∷ zs)
    by (inl e) rest =
        let less : y < z = AllPairs-from_increasing (y ∷ z ∷ zs) rises 0 1 0 (omega arith) (omega arith) in
        let last : z ≤ last_of y (z ∷ zs) = rest z (zero, omega arith, refl) in
        omega (arith, e, less, last)
    by (inr ne) rest = rest x (Contains-tail y (z ∷ zs) x ne c)

-- an open number is open up to any bound that it does not pass
pub open_up_to : (I : List (List ℕ)) (L : VolumeLayout) (a b m : ℕ) → is_open_number I L a m ≡ true → m ≤ b → is_open_number I L b m ≡ true
open_up_to I L a b m is within =
    let p = and_parts (nat_le 6 m) (nat_le m a && (not (is_in_use I L.home m) && nat_lt (sequence_of (header_at I L m)) 65535)) is in
    let q = and_parts (nat_le m a) (not (is_in_use I L.home m) && nat_lt (sequence_of (header_at I L m)) 65535) p.1 in
    λ i. p.0 i && (le-leb m b within i && q.1 i)

-- a number that is taken is open
pub allocated_number_is_open : (I : List (List ℕ)) (L : VolumeLayout) (headers : List ℕ) (count m : ℕ) → Contains (allocated_numbers I L headers count) m → is_open_number I L (greatest_number L.home) m ≡ true
unfolding open_numbers
allocated_number_is_open I L headers count m c =
    let most : ℕ = greatest_number L.home in
    All-contains (λ y. is_open_number I L most y ≡ true) (allocated_numbers I L headers count) m
    (All-take (λ y. is_open_number I L most y ≡ true) (allocated_count I L headers count) (open_numbers I L) (filter_passes (is_open_number I L most) (range_with_len 1 most))) c

-- where INDEXF.SYS need not grow for it, it is free
pub allocated_number_is_free : (I : List (List ℕ)) (L : VolumeLayout) (headers : List ℕ) (count m : ℕ) → index_growth L (allocated_numbers I L headers count) ≡ 0
    → Contains (allocated_numbers I L headers count) m → IsTrue (is_free_number I L m)
allocated_number_is_free I L headers count m still c =
    let last : m ≤ last_of 0 (allocated_numbers I L headers count) = up_to_last 0 (allocated_numbers I L headers count) (numbers_rise I L headers count) m c in
    open_up_to I L (greatest_number L.home) (last_number L) m (allocated_number_is_open I L headers count m c) (omega (arith, last, still))
