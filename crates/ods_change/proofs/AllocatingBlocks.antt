-- What a file takes: which refusal is answered where the volume lacks something.
use Rattle.std.proofs.Common.{◌/◌, ◌||◌, nat_lt, ◌≡◌, ◌⊎◌, ℕ, ◌+◌, ◌-◌, ◌<◌, ◌≤◌, Bool, true, false, cond, List, [], ◌∷◌, length, take, Some, None, refl, ap, ◌∙◌, subst, inl, inr, arith}
use Rattle.std.proofs.lemmas.Bool.{lt-ltb, le-ltb, or_from, or_left, or_right}
use Rattle.std.specs.List.{Contains, range_with_len}
use Rattle.std.proofs.lemmas.List.Elements.{All-contains, All-take, filter_passes}
use Rattle.ods_header.specs.declared.header.Run.{Run}
use Rattle.ods_space.specs.Free.{free_blocks, is_open_number, open_numbers}
use Rattle.ods_space.specs.Layout.{VolumeLayout, greatest_number, header_at, last_number}
use Rattle.ods_alloc.specs.declared.fault.SpaceFault.{SpaceFault}
use Rattle.ods_alloc.specs.declared.fault.SpaceFault.TheVariants as fault
use Rattle.ods_alloc.specs.Extend.{cut, cut_from, last_of}
use Rattle.ods_alloc.specs.Faults.{IsShort}
use Rattle.ods_alloc.proofs.Cuts.{goes_on, longer, single}
use Rattle.ods_alloc.proofs.Fields.{last_in}
use Rattle.ods_alloc.proofs.FreeTests.{open_number}
use Rattle.ods_request.specs.declared.refusals.Refusal.{Refusal}
use Rattle.ods_request.specs.declared.refusals.Refusal.TheVariants as refusal
use Rattle.ods_request.specs.Faults.{first_of}
use Rattle.ods_header.specs.Header.{room_of}
use Rattle.ods_state.specs.Wants.{blocks_behind, count_for, index_end, index_growth, lack_for, lacks_places as no_places, new_headers, numbers_for, allocated_blocks}
use Rattle.ods_change.specs.Taking.{HasPlaces, LacksPlaces, refusal_for}

-- no more runs than blocks
cut_from_few : (r : Run) (xs : List ℕ) → length (cut_from r xs) ≤ length xs + 1
cut_from_few r [] = omega arith
cut_from_few r (x ∷ xs) = by (goes_on r x) (cut_from_few (longer r) xs) (cut_from_few (single x) xs)
  where
    by : (t : Bool) → length (cut_from (longer r) xs) ≤ length xs + 1 → length (cut_from (single x) xs) ≤ length xs + 1 → length (cond t (cut_from (longer r) xs) (r ∷ cut_from (single x) xs)) ≤ length (x ∷ xs) + 1
    by true more next = omega arith
    by false more next = omega arith

pub cut_few : (xs : List ℕ) → length (cut xs) ≤ length xs
unfolding cut
cut_few [] = omega arith
cut_few (x ∷ xs) = let few = cut_from_few (single x) xs in omega (arith, few)

first_row : (a b d : Bool) (x y z : Refusal) → a ≡ true → first_of ((a, x) ∷ (b, y) ∷ (d, z) ∷ []) ≡ Some x
first_row a b d x y z is = ap (λ t. first_of ((t, x) ∷ (b, y) ∷ (d, z) ∷ [])) is

second_row : (a b d : Bool) (x y z : Refusal) → a ≡ false → b ≡ true → first_of ((a, x) ∷ (b, y) ∷ (d, z) ∷ []) ≡ Some y
second_row a b d x y z far is = ap (λ t. first_of ((t, x) ∷ (b, y) ∷ (d, z) ∷ [])) far ∙ ap (λ t. first_of ((t, y) ∷ (d, z) ∷ [])) is

third_row : (a b d : Bool) (x y z : Refusal) → a ≡ false → b ≡ false → first_of ((a, x) ∷ (b, y) ∷ (d, z) ∷ []) ≡ first_of ((d, z) ∷ [])
third_row a b d x y z far none = ap (λ t. first_of ((t, x) ∷ (b, y) ∷ (d, z) ∷ [])) far ∙ ap (λ t. first_of ((t, y) ∷ (d, z) ∷ [])) none

-- The volume I, by the layout L, for a file that is to get `count` blocks, where it has so many headers, and this room in the last.
module _ (I : List (List ℕ)) (L : VolumeLayout) (headers room count : ℕ) where
  pub lacks_blocks : length (free_blocks I L) < count → lack_for I L headers room count ≡ Some refusal.VolumeFull
  unfolding lack_for
  lacks_blocks few = first_row _ _ _ refusal.VolumeFull refusal.HeadersFull refusal.ChainFull (lt-ltb (length (free_blocks I L)) count few)

  pub lacks_numbers : count ≤ length (free_blocks I L) → length (open_numbers I L) < count_for I L headers room count → lack_for I L headers room count ≡ Some refusal.HeadersFull
  unfolding lack_for
  lacks_numbers enough few = second_row _ _ _ refusal.VolumeFull refusal.HeadersFull refusal.ChainFull
      (le-ltb (length (free_blocks I L)) count enough) (or_left _ _ (lt-ltb (length (open_numbers I L)) (count_for I L headers room count) few))

  pub lacks_places : count ≤ length (free_blocks I L) → LacksPlaces I L count (index_growth L (numbers_for I L headers room count)) → lack_for I L headers room count ≡ Some refusal.HeadersFull
  unfolding lack_for
  lacks_places enough lacks = second_row _ _ _ refusal.VolumeFull refusal.HeadersFull refusal.ChainFull
      (le-ltb (length (free_blocks I L)) count enough) (or_right (nat_lt (length (open_numbers I L)) (count_for I L headers room count)) _ (by lacks))
    where
      by : LacksPlaces I L count (index_growth L (numbers_for I L headers room count)) → (nat_lt (length (free_blocks I L)) (count + index_growth L (numbers_for I L headers room count)) || nat_lt (room_of (header_at I L (index_end I L)) / 2) (length (cut (blocks_behind I L (numbers_for I L headers room count) count)))) ≡ true
      by (inl few) = or_left _ _ (lt-ltb (length (free_blocks I L)) (count + index_growth L (numbers_for I L headers room count)) few)
      by (inr full) = or_right (nat_lt (length (free_blocks I L)) (count + index_growth L (numbers_for I L headers room count))) _ (lt-ltb (room_of (header_at I L (index_end I L)) / 2) (length (cut (blocks_behind I L (numbers_for I L headers room count) count))) full)

  no_lack : count_for I L headers room count ≤ length (open_numbers I L) → (places : List ℕ) → HasPlaces I L count (index_growth L (numbers_for I L headers room count)) places → (nat_lt (length (open_numbers I L)) (count_for I L headers room count) || no_places I L (numbers_for I L headers room count) count) ≡ false
  no_lack some places p =
      or_from _ _ (le-ltb (length (open_numbers I L)) (count_for I L headers room count) some)
      (or_from _ _ (le-ltb (length (free_blocks I L)) (count + index_growth L (numbers_for I L headers room count)) p.enough)
      (le-ltb (room_of (header_at I L (index_end I L)) / 2) (length (cut (blocks_behind I L (numbers_for I L headers room count) count))) (subst (λ l. length (cut l) ≤ room_of (header_at I L (index_end I L)) / 2) p.are p.room)))

  pub lacks_segments : count ≤ length (free_blocks I L) → count_for I L headers room count ≤ length (open_numbers I L) → (places : List ℕ) → HasPlaces I L count (index_growth L (numbers_for I L headers room count)) places
      → 256 < headers + count_for I L headers room count → lack_for I L headers room count ≡ Some refusal.ChainFull
  unfolding lack_for
  lacks_segments enough some places p many =
      third_row _ _ _ refusal.VolumeFull refusal.HeadersFull refusal.ChainFull (le-ltb (length (free_blocks I L)) count enough) (no_lack some places p)
      ∙ ap (λ t. first_of ((t, refusal.ChainFull) ∷ [])) (lt-ltb 256 (headers + count_for I L headers room count) many)

  pub lacks_none : count ≤ length (free_blocks I L) → count_for I L headers room count ≤ length (open_numbers I L) → (places : List ℕ) → HasPlaces I L count (index_growth L (numbers_for I L headers room count)) places
      → headers + count_for I L headers room count ≤ 256 → lack_for I L headers room count ≡ None
  unfolding lack_for
  lacks_none enough some places p few =
      third_row _ _ _ refusal.VolumeFull refusal.HeadersFull refusal.ChainFull (le-ltb (length (free_blocks I L)) count enough) (no_lack some places p)
      ∙ ap (λ t. first_of ((t, refusal.ChainFull) ∷ [])) (le-ltb 256 (headers + count_for I L headers room count) few)

-- a pick of blocks or numbers is refused for want of memory, or because fewer are free
pub short_blocks : (f : SpaceFault) (free count : ℕ) → IsShort fault.VolumeFull free count f → (refusal_for f ≡ refusal.NoMemory) ⊎ ((refusal_for f ≡ refusal.VolumeFull) × (free < count))
short_blocks fault.VolumeFull free count short = inr (refl, short.1)
short_blocks fault.HeadersFull free count short = let other = short.0 in absurd (cc)
short_blocks fault.ChainFull free count short = absurd short
short_blocks fault.NoMemory free count short = inl refl

pub short_numbers : (f : SpaceFault) (free count : ℕ) → IsShort fault.HeadersFull free count f → (refusal_for f ≡ refusal.NoMemory) ⊎ ((refusal_for f ≡ refusal.HeadersFull) × (free < count))
short_numbers fault.VolumeFull free count short = let other = short.0 in absurd (cc)
short_numbers fault.HeadersFull free count short = inr (refl, short.1)
short_numbers fault.ChainFull free count short = absurd short
short_numbers fault.NoMemory free count short = inl refl

-- how many headers are taken, by the runs of the blocks that are
pub wanted_is : (I : List (List ℕ)) (L : VolumeLayout) (headers room count needed : ℕ) (blocks : List ℕ) (runs : List Run)
    → blocks ≡ allocated_blocks I L count → runs ≡ cut blocks → needed ≡ new_headers headers room (length runs) → needed ≡ count_for I L headers room count
wanted_is I L headers room count needed blocks runs taken cuts counts = counts ∙ ap (λ l. new_headers headers room (length l)) (cuts ∙ ap cut taken)

-- what is said of so many headers and this room is said of those that are as many, with that room
pub by_numbers : (P : ℕ → ℕ → Type 0) {h k r s : ℕ} → h ≡ k → r ≡ s → P h r → P k s
by_numbers P {h} {k} {r} {s} same alike p = subst (λ x. P x s) same (subst (λ x. P h x) alike p)

-- the numbers that are taken are none past the greatest, so INDEXF.SYS may have a block for each
pub within_most : (I : List (List ℕ)) (L : VolumeLayout) (needed growth : ℕ) (numbers given : List ℕ) → numbers ≡ take needed (open_numbers I L) → given ≡ numbers → growth ≡ index_growth L given
    → last_number L + growth ≤ greatest_number L.home
unfolding open_numbers
within_most I L needed growth numbers given picked is grows =
    let last : last_of 0 given ≤ greatest_number L.home = by given (λ m c.
    All-contains (λ y. is_open_number I L (greatest_number L.home) y ≡ true) (take needed (open_numbers I L)) m
    (All-take (λ y. is_open_number I L (greatest_number L.home) y ≡ true) needed (open_numbers I L) (filter_passes (is_open_number I L (greatest_number L.home)) (range_with_len 1 (greatest_number L.home))))
    (subst (λ l. Contains l m) (is ∙ picked) c)) in
    omega (arith, last, grows)
  where
    by : (ns : List ℕ) → ((m : ℕ) → Contains ns m → is_open_number I L (greatest_number L.home) m ≡ true) → last_of 0 ns ≤ greatest_number L.home
    by [] each = omega arith
    by (n ∷ ns) each = (open_number I L (greatest_number L.home) (last_of n ns) (each (last_of n ns) (last_in n ns))).high
