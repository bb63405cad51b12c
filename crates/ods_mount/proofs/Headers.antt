-- Headers by their numbers.
use Rattle.std.proofs.Common.{◌≡◌, ℕ, ◌*◌, ◌<◌, ◌≤◌, Bool, true, false, ◌&&◌, List, refl, arith}
use Rattle.std.specs.Prelude.{IsTrue, nat_lt}
use Rattle.std.proofs.lemmas.Bool.{leb-true}
use Rattle.ods_base.specs.Image.{IsImage}
use Rattle.ods_header.specs.declared.home.Home.{Home}
use Rattle.ods_header.specs.Header.{IsHeader}
use Rattle.ods_space.specs.Layout.{VolumeLayout, header_at, place_by, is_in_use}
use Rattle.ods_space.proofs.Chains.{small_of}

-- the number of a header is a word
pub number_small : (I : List (List ℕ)) (L : VolumeLayout) (n : ℕ) → IsImage I → IsHeader (header_at I L n) n → n < 65536
number_small I L n image header =
    let low = small_of I (place_by L.home L.index n) 2 image in
    let high = small_of I (place_by L.home L.index n) 3 image in
    let is = header.numbered in
    omega (arith, low, high, is)

first_of : (a b : Bool) → (a && b) ≡ true → a ≡ true
first_of true b both = refl
first_of false b both = both

second_of : (a b : Bool) → (a && b) ≡ true → b ≡ true
second_of true b both = both
second_of false b both = absurd (let clash : false ≡ true = both in cc)

-- a number in use lies within the index bitmap
pub number_in_bitmap : (I : List (List ℕ)) (h : Home) (n : ℕ) → IsTrue (is_in_use I h n) → n ≤ 4096 * h.index_bitmap_size
number_in_bitmap I h n used = leb-true n (4096 * h.index_bitmap_size) (first_of _ _ (second_of (nat_lt 0 n) _ used))
