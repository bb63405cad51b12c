-- The numbers that a new file takes: there is a first one, and it is open; where INDEXF.SYS need not grow, it is free.
use Rattle.std.proofs.Common.{◌≡◌, ℕ, zero, suc, ◌≤◌, refl, ap, sym, ◌∙◌, subst, List, [], ◌∷◌, length, take, drop, get_or, None, Some, arith, inr}
use Rattle.std.specs.Prelude.{slice_get}
use Rattle.std.specs.List.{Contains}
use Rattle.std.proofs.lemmas.List.{length-take}
use Rattle.ods_space.specs.Layout.{VolumeLayout, greatest_number}
use Rattle.ods_space.specs.Free.{free_blocks, open_numbers}
use Rattle.ods_alloc.proofs.FreeTests.{IsFreeNumber, IsOpenNumber, free_number, open_number}
use Rattle.ods_state.specs.Wants.{index_growth, lack_of, allocated_blocks, allocated_count, allocated_numbers}
use Rattle.ods_state.specs.Growth.{IsTaking}
use Rattle.ods_state.proofs.GrowthAllocates.{is_enough, so_many_numbers}
use Rattle.ods_state.proofs.OpenNumbers.{allocated_number_is_free, allocated_number_is_open}

-- what stands first, where some are taken
first_of_some : (n : ℕ) (xs : List ℕ) → 1 ≤ n → slice_get (take n xs) 0 ≡ slice_get xs 0
first_of_some zero xs some = absurd (omega arith)
first_of_some (suc n) [] some = refl
first_of_some (suc n) (x ∷ xs) some = refl

-- whatever the count, the first number is the same
pub same_first : (I : List (List ℕ)) (L : VolumeLayout) (m n : ℕ) → slice_get (allocated_numbers I L [] m) 0 ≡ slice_get (allocated_numbers I L [] n) 0
same_first I L m n =
    first_of_some (allocated_count I L [] m) (open_numbers I L) (omega arith)
    ∙ sym (first_of_some (allocated_count I L [] n) (open_numbers I L) (omega arith))

module _ (I : List (List ℕ)) (L : VolumeLayout) (count : ℕ) (enough : lack_of I L [] count ≡ None) where
  pub all_blocks : length (allocated_blocks I L count) ≡ count
  all_blocks = let some = (is_enough I L [] count enough).blocks in length-take count (free_blocks I L) ∙ omega arith

  pub some_number : 1 ≤ length (allocated_numbers I L [] count)
  some_number = let many = so_many_numbers I L [] count (is_enough I L [] count enough) in omega (arith, many)

  module _ (ns : List ℕ) (is : ns ≡ allocated_numbers I L [] count) where
    abbrev pub n : ℕ
    n = get_or ns 0 0

    pub numbers_there : 1 ≤ length ns
    numbers_there = let some = some_number in omega (arith, ap length is)

    split : (xs : List ℕ) → 1 ≤ length xs → get_or xs 0 0 ∷ drop 1 xs ≡ xs
    split [] some = absurd (omega arith)
    split (x ∷ xs) some = refl

    taken : Contains (allocated_numbers I L [] count) n
    taken = subst (λ xs. Contains xs n) is (by ns numbers_there)
      where
        by : (xs : List ℕ) → 1 ≤ length xs → Contains xs (get_or xs 0 0)
        by [] some = absurd (omega arith)
        by (x ∷ xs) some = (0, omega arith, refl)

    pub first_is_open : IsOpenNumber I L (greatest_number L.home) n
    first_is_open = open_number I L (greatest_number L.home) n (allocated_number_is_open I L [] count n taken)

    pub first_is_taken : slice_get (allocated_numbers I L [] 0) 0 ≡ Some n
    first_is_taken = same_first I L 0 count ∙ ap (λ xs. slice_get xs 0) (sym is) ∙ by ns numbers_there
      where
        by : (xs : List ℕ) → 1 ≤ length xs → slice_get xs 0 ≡ Some (get_or xs 0 0)
        by [] some = absurd (omega arith)
        by (x ∷ xs) some = refl

    module _ (still : index_growth L (allocated_numbers I L [] count) ≡ 0) where
      pub first_is_free : IsFreeNumber I L n
      first_is_free = free_number I L n (allocated_number_is_free I L [] count n still taken)

      pub new_taking : IsTaking I L n [] [] count (drop 1 ns)
      new_taking = let low = first_is_open.low in record {
        above = omega arith;
        before = inr (refl, refl);
        all = split ns numbers_there ∙ is;
        enough = enough;
        no_growth = still;
      }
