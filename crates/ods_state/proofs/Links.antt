-- Chains where headers change in what does not link them: owner, characteristics, attributes, ident.
-- A header that stays is a case of it, so this serves every change of blocks.
use Rattle.std.proofs.Common.{◌≡◌, ◌≢◌, ℕ, zero, suc, ◌+◌, ◌-◌, ◌*◌, ◌/◌, ◌%◌, ◌<◌, ◌≤◌, refl, ap, sym, ◌∙◌, subst, Bool, true, false, cond, IsTrue, List, [], ◌∷◌, ◌++◌, Option, Some, None, arith}
use Rattle.std.specs.Prelude.{◌==◌, ◌&&◌, nat_le, nat_lt, slice_get}
use Rattle.std.proofs.lemmas.Bool.{ltb-true}
use borrow.Author.Tests.{eqb-false, leb-true}
use Rattle.ods_base.specs.Block.{has_bit}
use Rattle.ods_base.specs.Image.{block_at}
use Rattle.ods_header.specs.declared.home.Home.{Home}
use Rattle.ods_header.specs.Header.{blocks_of, sequence_of, next_sequence_of}
use Rattle.ods_space.specs.Layout.{VolumeLayout, place_of, header_by, is_in_use}
use Rattle.ods_space.specs.Chain.{known, most, IsSegment, Follows}
use Rattle.ods_space.specs.Files.{Holds}
use Rattle.ods_mount.specs.Sound.{IsSoundBy}
use Rattle.ods_state.specs.Links.{SameLinks}

-- header n of two images links alike, and has its index bit alike
pub record LinkedAt (I J : List (List ℕ)) (h : Home) (index : List ℕ) (n : ℕ) : Type 0 where
  pub links : SameLinks (header_by I h index n) (header_by J h index n) n
  pub used : is_in_use J h n ≡ is_in_use I h n

pub itself : (b : List ℕ) (n : ℕ) → SameLinks b b n
itself b n = record { valid = λ v. v; segment = refl; sequence = refl; next_number = refl; next_sequence = refl; next_volume = refl; blocks = refl }

-- a header that stays, with its index bit, links as it did
pub linked_same : (I J : List (List ℕ)) (h : Home) (index : List ℕ) (n : ℕ) → header_by J h index n ≡ header_by I h index n → is_in_use J h n ≡ is_in_use I h n → LinkedAt I J h index n
linked_same I J h index n same used = record { links = subst (λ c. SameLinks (header_by I h index n) c n) (sym same) (itself (header_by I h index n) n); used = used }

-- where the blocks of the index bitmap stay, so do its bits
pub bits_stay : (I J : List (List ℕ)) (h : Home) → ((i : ℕ) → i < h.index_bitmap_size → block_at J (h.index_bitmap_lbn + i) ≡ block_at I (h.index_bitmap_lbn + i)) → (n : ℕ) → is_in_use J h n ≡ is_in_use I h n
bits_stay I J h same n = by (nat_lt 0 n) (nat_le n (4096 * h.index_bitmap_size)) refl refl
  where
    by : (p q : Bool) → nat_lt 0 n ≡ p → nat_le n (4096 * h.index_bitmap_size) ≡ q
        → (p && (q && has_bit (block_at J (h.index_bitmap_lbn + (n - 1) / 4096)) ((n - 1) % 4096))) ≡ (p && (q && has_bit (block_at I (h.index_bitmap_lbn + (n - 1) / 4096)) ((n - 1) % 4096)))
    by false q ep eq = refl
    by true false ep eq = refl
    by true true ep eq =
        let low : 0 < n = ltb-true 0 n ep in
        let high : n ≤ 4096 * h.index_bitmap_size = leb-true n (4096 * h.index_bitmap_size) eq in
        let bound : (n - 1) / 4096 < h.index_bitmap_size = omega arith in
        ap (λ c. has_bit c ((n - 1) % 4096)) (same ((n - 1) / 4096) bound)

-- and so along a chain
abbrev pub LinkedAlong : List (List ℕ) → List (List ℕ) → Home → Option (List ℕ) → List ℕ → ℕ → List ℕ → Type 0
LinkedAlong I J h index front n [] = LinkedAt I J h (known index front) n
LinkedAlong I J h index front n (m ∷ ms) =
    LinkedAt I J h (known index front) n × LinkedAlong I J h index (front ++ blocks_of (header_by I h (known index front) n)) m ms

pub linked_first : (I J : List (List ℕ)) (h : Home) (index : Option (List ℕ)) (front : List ℕ) (n : ℕ) (ms : List ℕ) → LinkedAlong I J h index front n ms → LinkedAt I J h (known index front) n
linked_first I J h index front n [] a = a
linked_first I J h index front n (m ∷ ms) a = a.0

pub linked_segment : (I J : List (List ℕ)) (h : Home) (index : List ℕ) (last n k : ℕ) → LinkedAt I J h index n → IsSegment I h index last n k → IsSegment J h index last n k
linked_segment I J h index last n k same s = record {
  first = s.first;
  last = s.last;
  in_use = subst IsTrue (sym same.used) s.in_use;
  valid = same.links.valid s.valid;
  segment = same.links.segment ∙ s.segment;
}

-- a chain whose headers link alike is a chain of the other image
pub linked_chain : (I J : List (List ℕ)) (h : Home) (index : Option (List ℕ)) (front : List ℕ) (k n : ℕ) (ms all : List ℕ) → LinkedAlong I J h index front n ms → Follows I h index front k n ms all → Follows J h index front k n ms all
linked_chain I J h index front k n [] all a f = (
  linked_segment I J h (known index front) (most h index front) n k a f.0,
  a.links.next_number ∙ f.1,
  f.2 ∙ ap (λ bs. front ++ bs) (sym a.links.blocks),
)
linked_chain I J h index front k n (m ∷ ms) all a f =
    let b = header_by I h (known index front) n in
    let c = header_by J h (known index front) n in
    let same : LinkedAt I J h (known index front) n = a.0 in
    let next : LinkedAt I J h (known index (front ++ blocks_of b)) m = linked_first I J h index (front ++ blocks_of b) m ms a.1 in (
      linked_segment I J h (known index front) (most h index front) n k a.0 f.0,
      same.links.next_number ∙ f.1,
      same.links.next_volume ∙ f.2,
      subst (λ bs. sequence_of (header_by J h (known index (front ++ bs)) m) ≡ next_sequence_of c) (sym same.links.blocks)
          (next.links.sequence ∙ f.3 ∙ sym same.links.next_sequence),
      subst (λ bs. Follows J h index (front ++ bs) (suc k) m ms all) (sym same.links.blocks) (linked_chain I J h index (front ++ blocks_of b) (suc k) m ms all a.1 f.4),
    )

-- a header with a place has a number
pub numbered : (L : VolumeLayout) (n x : ℕ) → place_of L n ≡ Some x → 1 ≤ n
numbered L zero x e = absurd (cc)
numbered L (suc n) x e = omega arith

-- header n has one place, and no other header has it: it is block 2 + H.IBSZ + n of INDEXF.SYS
module _ (I : List (List ℕ)) (L : VolumeLayout) (S : IsSoundBy I L) where
  placed_by : (n x : ℕ) (z l : Bool) → (n == 0) ≡ z → nat_le n 16 ≡ l
      → cond z None (cond l (Some (L.home.index_bitmap_lbn + L.home.index_bitmap_size + n - 1)) (slice_get L.index (1 + L.home.index_bitmap_size + n))) ≡ Some x
      → slice_get L.index (1 + L.home.index_bitmap_size + n) ≡ Some x
  placed_by n x true l ez el e = absurd (cc)
  placed_by n x false true ez el e =
      let some : n ≢ 0 = eqb-false n 0 ez in
      let low : n ≤ 16 = leb-true n 16 el in
      let bound : L.home.index_bitmap_size + n - 1 < L.home.index_bitmap_size + 16 = omega arith in
      let at = S.index_place (L.home.index_bitmap_size + n - 1) bound in
      let is : L.home.index_bitmap_lbn + (L.home.index_bitmap_size + n - 1) ≡ L.home.index_bitmap_lbn + L.home.index_bitmap_size + n - 1 = omega arith in
      let place : 2 + (L.home.index_bitmap_size + n - 1) ≡ 1 + L.home.index_bitmap_size + n = omega arith in
      ap (slice_get L.index) (sym place) ∙ at ∙ ap Some is ∙ e
  placed_by n x false false ez el e = e

  pub placed : (n x : ℕ) → place_of L n ≡ Some x → slice_get L.index (1 + L.home.index_bitmap_size + n) ≡ Some x
  placed n x e = placed_by n x (n == 0) (nat_le n 16) refl refl e

  pub header_held : (n x : ℕ) → place_of L n ≡ Some x → Holds I L 1 (2 + L.home.index_bitmap_size + n) x
  header_held n x e = record {
    blocks = L.index;
    file = S.layout.index;
    first = omega arith;
    named = ap (slice_get L.index) less ∙ placed n x e;
  }
    where
      less : 2 + L.home.index_bitmap_size + n - 1 ≡ 1 + L.home.index_bitmap_size + n
      less = omega arith

  pub place_is_one : (m n x : ℕ) → place_of L m ≡ Some x → place_of L n ≡ Some x → m ≡ n
  place_is_one m n x p q =
      let same = (S.once 1 1 (2 + L.home.index_bitmap_size + m) (2 + L.home.index_bitmap_size + n) x (header_held m x p) (header_held n x q)).1 in
      omega (arith, same)

  -- no file but INDEXF.SYS holds a header's block
  pub header_is_no_data : (n x m v : ℕ) → place_of L n ≡ Some x → Holds I L m v x → m ≡ 1
  header_is_no_data n x m v p h = (S.once m 1 v (2 + L.home.index_bitmap_size + n) x h (header_held n x p)).0
