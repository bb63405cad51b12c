-- The places of headers and bitmaps: inside the image, and apart.
use Rattle.std.proofs.Common.{◌≡◌, ℕ, ◌+◌, ◌-◌, ◌*◌, ◌/◌, ◌<◌, ◌≤◌, ◌⊎◌, Bool, true, false, cond, ◌&&◌, ◌%◌, nat_eq, nat_le, nat_lt, List, length, drop, get_or, slice_get, Some, None, refl, sym, ap, ◌∙◌, subst, arith, inl, inr}
use Rattle.std.specs.List.{All}
use Rattle.std.proofs.lemmas.Bool.{cases_lt, leb-true, eqb-false, le-leb, lt-leb, lt-ltb, le-ltb, and_left, and_right}
use Rattle.std.proofs.lemmas.List.{length-drop, get_or-drop, get_or_default}
use Rattle.std.proofs.lemmas.Option.{slice_get-get_or, slice_get_within, get_or_from_slice_get, same_Some}
use Rattle.ods_base.specs.Block.{has_bit}
use Rattle.ods_base.specs.Image.{block_at}
use Rattle.ods_space.specs.Layout.{VolumeLayout, place_of, is_in_use}
use Rattle.ods_space.specs.Files.{IsLayoutOf}
use Rattle.ods_space.specs.Draft.{Changes, applied}
use Rattle.ods_space.proofs.Drafts.{length-applied}
use Rattle.ods_alloc.specs.Extend.{IsWellPlaced, IsIndexBitmap, IsStorageBitmap}
use Rattle.ods_alloc.specs.Marks.{HasPlaces}

pub has_places : (I : List (List ℕ)) (d : Changes) (L : VolumeLayout) → IsLayoutOf (applied I d) L → IsWellPlaced L → HasPlaces (length I) L
has_places I d L layout places =
    let size = length-applied I d in
    let P : ℕ → Type 0 = λ n. All (λ lbn. lbn < n) L.index in
    let Q : ℕ → Type 0 = λ n. All (λ lbn. lbn < n) L.bitmap in
    record { index = subst P size layout.index.whole.inside; bitmap = subst Q size layout.bitmap.whole.inside; places = places }

-- a header stands in a block of INDEXF.SYS behind the index bitmap
pub place_in_index : (L : VolumeLayout) (n lbn : ℕ) → IsWellPlaced L → place_of L n ≡ Some lbn → (1 ≤ n) × (slice_get L.index (1 + L.home.index_bitmap_size + n) ≡ Some lbn)
place_in_index L n lbn places found = by (nat_eq n 0) refl (nat_le n 16) refl found
  where
    by : (a : Bool) → nat_eq n 0 ≡ a → (b : Bool) → nat_le n 16 ≡ b → cond a None (cond b (Some (L.home.index_bitmap_lbn + L.home.index_bitmap_size + n - 1)) (slice_get L.index (1 + L.home.index_bitmap_size + n))) ≡ Some lbn
        → (1 ≤ n) × (slice_get L.index (1 + L.home.index_bitmap_size + n) ≡ Some lbn)
    by true zero b low e = absurd (cc)
    by false some true low e =
        let apart = eqb-false n 0 some in
        let few = leb-true n 16 low in
        let place : L.home.index_bitmap_lbn + L.home.index_bitmap_size + n - 1 ≡ lbn = same_Some _ _ e in
        let at : 1 + L.home.index_bitmap_size + n ≡ 2 + (L.home.index_bitmap_size + n - 1) = omega arith in
        let is : L.home.index_bitmap_lbn + (L.home.index_bitmap_size + n - 1) ≡ lbn = omega arith in
        (omega arith, ap (slice_get L.index) at ∙ places.index_place (L.home.index_bitmap_size + n - 1) (omega arith) ∙ ap Some is)
    by false some false high e = let apart = eqb-false n 0 some in (omega arith, e)

pub place_inside : (size : ℕ) (L : VolumeLayout) (n lbn : ℕ) → HasPlaces size L → place_of L n ≡ Some lbn → lbn < size
place_inside size L n lbn places found =
    let stands = place_in_index L n lbn places.places found in
    let at : get_or L.index (1 + L.home.index_bitmap_size + n) 0 ≡ lbn = get_or_from_slice_get L.index (1 + L.home.index_bitmap_size + n) lbn 0 stands.1 in
    let inside = places.index (1 + L.home.index_bitmap_size + n) 0 (slice_get_within L.index (1 + L.home.index_bitmap_size + n) lbn stands.1) in
    omega (arith, at, inside)

-- one place is one number's
pub place_once : (L : VolumeLayout) (n m lbn : ℕ) → IsWellPlaced L → place_of L n ≡ Some lbn → place_of L m ≡ Some lbn → n ≡ m
place_once L n m lbn places one other =
    let same = places.index_once (1 + L.home.index_bitmap_size + n) (1 + L.home.index_bitmap_size + m) lbn (place_in_index L n lbn places one).1 (place_in_index L m lbn places other).1 in
    omega arith

-- no header stands in the index bitmap
pub place_not_index : (L : VolumeLayout) (n lbn : ℕ) → IsWellPlaced L → place_of L n ≡ Some lbn → IsIndexBitmap L lbn → ⊥
place_not_index L n lbn places found bitmap =
    let i : ℕ = lbn - L.home.index_bitmap_lbn in
    let low = bitmap.0 in let high = bitmap.1 in
    let stands = place_in_index L n lbn places found in
    let some = stands.0 in
    let is : L.home.index_bitmap_lbn + i ≡ lbn = omega arith in
    let same = places.index_once (2 + i) (1 + L.home.index_bitmap_size + n) lbn (places.index_place i (omega arith) ∙ ap Some is) stands.1 in
    absurd (omega arith)

-- a block of the storage bitmap by its place in BITMAP.SYS
pub storage_at : (L : VolumeLayout) (lbn : ℕ) → IsStorageBitmap L lbn → (k : ℕ) × (slice_get L.bitmap k ≡ Some lbn)
storage_at L lbn stands =
    let k = stands.0 in
    let shorter : length (drop 1 L.bitmap) ≡ length L.bitmap - 1 = length-drop 1 L.bitmap in
    let within = stands.1 in
    let inside : 1 + k < length L.bitmap = omega arith in
    let is : get_or L.bitmap (1 + k) lbn ≡ lbn = sym (get_or-drop 1 L.bitmap k lbn) ∙ stands.2 in
    (1 + k, slice_get-get_or L.bitmap (1 + k) lbn inside ∙ ap Some is)

-- no header stands in the storage bitmap
pub place_not_storage : (L : VolumeLayout) (n lbn : ℕ) → IsWellPlaced L → place_of L n ≡ Some lbn → IsStorageBitmap L lbn → ⊥
place_not_storage L n lbn places found bitmap =
    let at = storage_at L lbn bitmap in
    places.apart (1 + L.home.index_bitmap_size + n) at.0 lbn lbn (place_in_index L n lbn places found).1 at.1 refl

-- the bitmaps are apart
pub bitmaps_apart : (L : VolumeLayout) (lbn : ℕ) → IsWellPlaced L → IsIndexBitmap L lbn → IsStorageBitmap L lbn → ⊥
bitmaps_apart L lbn places index bitmap =
    let i : ℕ = lbn - L.home.index_bitmap_lbn in
    let low = index.0 in let high = index.1 in
    let is : L.home.index_bitmap_lbn + i ≡ lbn = omega arith in
    let at = storage_at L lbn bitmap in
    places.apart (2 + i) at.0 lbn lbn (places.index_place i (omega arith) ∙ ap Some is) at.1 refl

-- the block that has the storage bit of x is of the storage bitmap
pub stands_in_storage : (L : VolumeLayout) (x : ℕ) → 1 + x / 4096 < length L.bitmap → IsStorageBitmap L (get_or L.bitmap (1 + x / 4096) 0)
stands_in_storage L x covers =
    let here : ℕ = get_or L.bitmap (1 + x / 4096) 0 in
    let shorter : length (drop 1 L.bitmap) ≡ length L.bitmap - 1 = length-drop 1 L.bitmap in
    let at : get_or (drop 1 L.bitmap) (x / 4096) here ≡ here = get_or-drop 1 L.bitmap (x / 4096) here ∙ get_or_default L.bitmap (1 + x / 4096) here 0 covers in
    (x / 4096, omega arith, at)

-- the index bit of a number that the bitmap covers
pub in_use_is : (K : List (List ℕ)) (L : VolumeLayout) (n : ℕ) → 1 ≤ n → n ≤ 4096 * L.home.index_bitmap_size → is_in_use K L.home n ≡ has_bit (block_at K (L.home.index_bitmap_lbn + (n - 1) / 4096)) ((n - 1) % 4096)
in_use_is K L n some few =
    let t : Bool = has_bit (block_at K (L.home.index_bitmap_lbn + (n - 1) / 4096)) ((n - 1) % 4096) in
    ap (λ a. a && (nat_le n (4096 * L.home.index_bitmap_size) && t)) (lt-ltb 0 n some) ∙ ap (λ a. a && t) (le-leb n (4096 * L.home.index_bitmap_size) few)

-- the index bit of any other number
pub never_in_use : (K : List (List ℕ)) (L : VolumeLayout) (n : ℕ) → (n ≡ 0) ⊎ (4096 * L.home.index_bitmap_size < n) → is_in_use K L.home n ≡ false
never_in_use K L n (inl zero) = and_left (nat_lt 0 n) _ (le-ltb 0 n (omega arith))
never_in_use K L n (inr high) = and_right (nat_lt 0 n) _ (and_left (nat_le n (4096 * L.home.index_bitmap_size)) _ (lt-leb n (4096 * L.home.index_bitmap_size) high))

pub cases_covered : (L : VolumeLayout) (n : ℕ) → ((1 ≤ n) × (n ≤ 4096 * L.home.index_bitmap_size)) ⊎ ((n ≡ 0) ⊎ (4096 * L.home.index_bitmap_size < n))
cases_covered L n = elim (cases_lt 0 n) [
  | inr none ↦ inr (inl (omega arith))
  | inl some ↦ elim (cases_lt (4096 * L.home.index_bitmap_size) n) [ inl high ↦ inr (inr high) | inr low ↦ inl (some, low) ]
]

-- two images with the same index bitmap have the same numbers in use
pub same_in_use : (A B : List (List ℕ)) (L : VolumeLayout) → ((lbn : ℕ) → IsIndexBitmap L lbn → block_at A lbn ≡ block_at B lbn) → (n : ℕ) → is_in_use A L.home n ≡ is_in_use B L.home n
same_in_use A B L same n = elim (cases_covered L n) [
  | inl covered ↦
      let some = covered.0 in let few = covered.1 in
      in_use_is A L n some few ∙ ap (λ b. has_bit b ((n - 1) % 4096)) (same (L.home.index_bitmap_lbn + (n - 1) / 4096) (omega arith, omega arith)) ∙ sym (in_use_is B L n some few)
  | inr past ↦ never_in_use A L n past ∙ sym (never_in_use B L n past)
]
