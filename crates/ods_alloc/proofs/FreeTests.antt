-- What passes the tests of free blocks and free numbers, and what does not.
use Rattle.std.proofs.Common.{◌≡◌, ℕ, ◌^◌, ◌<◌, ◌≤◌, subst, true, false, nat_le, nat_lt, List, [], ◌∷◌, length, take, IsTrue, arith}
use Rattle.std.specs.List.{Contains, range_with_len}
use Rattle.std.proofs.lemmas.List.Elements.{All-contains, All-take, filter_passes}
use Rattle.std.proofs.lemmas.Bool.{and_left, and_parts, and_right, leb-true, le-ltb, lt-leb, ltb-true, not-true}
use Rattle.ods_header.specs.Header.{sequence_of}
use Rattle.ods_space.specs.Layout.{VolumeLayout, header_at, last_number, is_in_use}
use Rattle.ods_space.specs.Free.{free_blocks, is_free_block, is_free_number, is_open_number}
use Rattle.ods_alloc.specs.Extend.{last_of}
use Rattle.ods_alloc.proofs.Fields.{last_in}
use Rattle.ods_alloc.specs.Scan.{NonePasses, is_clear}

-- a free block is one of the image
pub free_inside : (I : List (List ℕ)) (L : VolumeLayout) (lbn : ℕ) → is_free_block I L lbn ≡ true → lbn < length I
free_inside I L lbn free = ltb-true lbn (length I) (and_parts (nat_lt lbn (length I)) _ free).0

pub not_free_past : (I : List (List ℕ)) (L : VolumeLayout) (lbn : ℕ) → length I ≤ lbn → is_free_block I L lbn ≡ false
not_free_past I L lbn past = and_left _ _ (le-ltb lbn (length I) past)

-- the last of some lowest free blocks is one of the image
pub lowest_few : (I : List (List ℕ)) (L : VolumeLayout) (blocks : List ℕ) → blocks ≡ take (length blocks) (free_blocks I L) → length I ≤ 2 ^ 20 → last_of 0 blocks < 2 ^ 20
unfolding free_blocks
lowest_few I L [] is few = omega arith
lowest_few I L (x ∷ xs) is few =
    let free : is_free_block I L (last_of x xs) ≡ true =
    All-contains (λ y. is_free_block I L y ≡ true) (take (length (x ∷ xs)) (free_blocks I L)) (last_of x xs)
    (All-take (λ y. is_free_block I L y ≡ true) (length (x ∷ xs)) (free_blocks I L) (filter_passes (is_free_block I L) (range_with_len 0 (length I))))
    (subst (λ l. Contains l (last_of x xs)) is (last_in x xs)) in
    let inside = free_inside I L (last_of x xs) free in
    omega (arith, inside, few)

-- what is known of a number that is open up to another one
pub record IsOpenNumber (I : List (List ℕ)) (L : VolumeLayout) (most m : ℕ) : Type 0 where
  pub low : 6 ≤ m
  pub high : m ≤ most
  pub unused : is_in_use I L.home m ≡ false
  pub below : sequence_of (header_at I L m) < 65535

pub open_number : (I : List (List ℕ)) (L : VolumeLayout) (most m : ℕ) → is_open_number I L most m ≡ true → IsOpenNumber I L most m
open_number I L most m is =
    let a = and_parts (nat_le 6 m) _ is in
    let b = and_parts (nat_le m most) _ a.1 in
    let c = and_parts _ (nat_lt (sequence_of (header_at I L m)) 65535) b.1 in
    record { low = leb-true 6 m a.0; high = leb-true m most b.0; unused = not-true (is_in_use I L.home m) c.0; below = ltb-true (sequence_of (header_at I L m)) 65535 c.1 }

-- and of a free one
abbrev pub IsFreeNumber : List (List ℕ) → VolumeLayout → ℕ → Type 0
IsFreeNumber I L m = IsOpenNumber I L (last_number L) m

pub free_number : (I : List (List ℕ)) (L : VolumeLayout) (m : ℕ) → IsTrue (is_free_number I L m) → IsFreeNumber I L m
free_number I L m free = open_number I L (last_number L) m free

pub not_open_low : (I : List (List ℕ)) (L : VolumeLayout) (most n : ℕ) → n < 6 → is_open_number I L most n ≡ false
not_open_low I L most n low = and_left _ _ (lt-leb 6 n low)

pub not_open_high : (I : List (List ℕ)) (L : VolumeLayout) (most n : ℕ) → most < n → is_open_number I L most n ≡ false
not_open_high I L most n high = and_right (nat_le 6 n) _ (and_left _ _ (lt-leb n most high))

-- a number in use is not open
pub none_open : (I : List (List ℕ)) (L : VolumeLayout) (most a b : ℕ) → NonePasses (is_clear I L.home) a b → NonePasses (is_open_number I L most) a b
none_open I L most a b used k above below = and_right (nat_le 6 k) _ (and_right (nat_le k most) _ (and_left _ _ (used k above below)))
