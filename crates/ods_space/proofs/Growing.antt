-- The blocks of INDEXF.SYS grow header by header, and no header's place changes.
use Rattle.std.proofs.Common.{◌≡◌, ℕ, suc, ◌+◌, ◌-◌, Bool, true, false, cond, nat_eq, nat_le, List, [], ◌∷◌, ◌++◌, Some, None, refl, sym, ap, ◌∙◌}
use Rattle.std.specs.Prelude.{slice_get}
use Rattle.std.proofs.lemmas.Option.{slice_get_within}
use Rattle.ods_header.specs.declared.home.Home.{Home}
use Rattle.ods_header.specs.Header.{blocks_of}
use Rattle.ods_space.specs.Layout.{header_by, place_by}
use Rattle.ods_space.specs.Chain.{Follows}
use Rattle.ods_space.specs.Growth.{one_more, begun, index_after, PlacesStay}
use Rattle.ods_space.proofs.Surveys.{slice_get-append_left}

-- what is at a place of a list is there after more is appended
pub still_there : (xs ys : List ℕ) (i x : ℕ) → slice_get xs i ≡ Some x → slice_get (xs ++ ys) i ≡ Some x
still_there xs ys i x found = slice_get-append_left xs ys i (slice_get_within xs i x found) ∙ found

-- a header's place by the front of a list is its place by the whole
pub place_stays : (h : Home) (xs ys : List ℕ) (n lbn : ℕ) → place_by h xs n ≡ Some lbn → place_by h (xs ++ ys) n ≡ Some lbn
place_stays h xs ys n lbn found = by (nat_eq n 0) (nat_le n 16) found
  where
    by : (a b : Bool) → cond a None (cond b (Some (h.index_bitmap_lbn + h.index_bitmap_size + n - 1)) (slice_get xs (1 + h.index_bitmap_size + n))) ≡ Some lbn
        → cond a None (cond b (Some (h.index_bitmap_lbn + h.index_bitmap_size + n - 1)) (slice_get (xs ++ ys) (1 + h.index_bitmap_size + n))) ≡ Some lbn
    by true b e = e
    by false true e = e
    by false false e = still_there xs ys (1 + h.index_bitmap_size + n) lbn e

reaches : (I : List (List ℕ)) (h : Home) (k : ℕ) (front : List ℕ) (j n : ℕ) (ns all : List ℕ) → begun I h k ≡ record { blocks = front; next = n } → Follows I h None front j n ns all → (m : ℕ) × (all ≡ index_after I h m)
reaches I h k front j n [] all is f = (suc k, f.2 ∙ sym (ap (λ w. (one_more I h w).blocks) is))
reaches I h k front j n (m ∷ ms) all is f =
    let b = header_by I h front n in
    let next : begun I h (suc k) ≡ record { blocks = front ++ blocks_of b; next = m } = ap (one_more I h) is ∙ ap (λ x. record { blocks = front ++ blocks_of b; next = x }) f.1 in
    reaches I h (suc k) (front ++ blocks_of b) (suc j) m ms all next f.4

pub places_stay : PlacesStay
places_stay = record {
  begins = λ I h k. (blocks_of (header_by I h (begun I h k).blocks (begun I h k).next), refl);
  stays = λ I h k n lbn. place_stays h (index_after I h k) (blocks_of (header_by I h (begun I h k).blocks (begun I h k).next)) n lbn;
  whole = λ I h index found. reaches I h 0 [] 0 1 found.0 index refl found.1;
}
