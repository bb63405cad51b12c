-- The blocks of bitmaps and headers: which blocks these are can be told, and files 1 and 2 hold them.
use Rattle.std.proofs.Common.{◌≡◌, ◌≢◌, ℕ, zero, suc, ◌+◌, ◌-◌, ◌<◌, ◌≤◌, refl, ap, ◌∙◌, List, [], ◌∷◌, drop, Option, Some, None, arith, inl, inr}
use Rattle.std.specs.Prelude.{◌⊎◌, slice_get}
use Rattle.std.specs.List.{Contains}
use Rattle.std.proofs.lemmas.Bool.{cases_eq, cases_lt}
use Rattle.std.proofs.lemmas.Map.Made.{Contains-tail}
use Rattle.ods_mount.proofs.Each.{holds_at}
use Rattle.ods_space.specs.Layout.{VolumeLayout, place_of}
use Rattle.ods_space.specs.Files.{Holds}
use Rattle.ods_alloc.specs.Extend.{IsBookkeeping, IsWellPlaced, IsHeaderPlace, IsIndexBitmap, IsStorageBitmap}
use Rattle.ods_alloc.proofs.Places.{storage_at}
use Rattle.ods_mount.specs.Faults.{CouldBeWritten}
use Rattle.ods_mount.specs.Sound.{IsSoundBy}
use Rattle.ods_state.proofs.Links.{header_held, numbered}
use Rattle.ods_state.proofs.Taken.{contains_or_not, none_empty}

is_or_not : (o : Option ℕ) (x : ℕ) → (o ≡ Some x) ⊎ (o ≢ Some x)
is_or_not None x = inr (λ e. absurd (cc))
is_or_not (Some y) x = by (cases_eq y x)
  where
    by : (y ≡ x) ⊎ (y ≢ x) → (Some y ≡ Some x) ⊎ (Some y ≢ Some x)
    by (inl e) = inl (ap (λ z. Some z) e)
    by (inr ne) = inr (λ e. ne (cc))

header_or_not : (L : VolumeLayout) (numbers : List ℕ) (x : ℕ) → IsHeaderPlace L numbers x ⊎ (¬ IsHeaderPlace L numbers x)
header_or_not L [] x = inr (λ p. none_empty p.0 p.1)
header_or_not L (m ∷ ms) x = by (is_or_not (place_of L m) x) (header_or_not L ms x)
  where
    by : (place_of L m ≡ Some x) ⊎ (place_of L m ≢ Some x) → IsHeaderPlace L ms x ⊎ (¬ IsHeaderPlace L ms x) → IsHeaderPlace L (m ∷ ms) x ⊎ (¬ IsHeaderPlace L (m ∷ ms) x)
    by (inl e) rest = inl (m, (zero, omega arith, refl), e)
    by (inr ne) (inl p) = let low = p.1.1 in inl (p.0, (suc p.1.0, omega arith, p.1.2), p.2)
    by (inr ne) (inr none) = inr (λ p. by_number p.0 p.1 p.2 (cases_eq m p.0))
      where
        by_number : (k : ℕ) → Contains (m ∷ ms) k → place_of L k ≡ Some x → (m ≡ k) ⊎ (m ≢ k) → ⊥
        by_number k c e (inl same) = ne (ap (place_of L) same ∙ e)
        by_number k c e (inr other) = none (k, Contains-tail m ms k other c, e)

index_or_not : (L : VolumeLayout) (x : ℕ) → IsIndexBitmap L x ⊎ (¬ IsIndexBitmap L x)
index_or_not L x = by (cases_lt x L.home.index_bitmap_lbn) (cases_lt x (L.home.index_bitmap_lbn + L.home.index_bitmap_size))
  where
    by : (x < L.home.index_bitmap_lbn) ⊎ (L.home.index_bitmap_lbn ≤ x) → (x < L.home.index_bitmap_lbn + L.home.index_bitmap_size) ⊎ (L.home.index_bitmap_lbn + L.home.index_bitmap_size ≤ x)
        → IsIndexBitmap L x ⊎ (¬ IsIndexBitmap L x)
    by (inl low) side = inr (λ p. let above = p.0 in absurd (omega arith))
    by (inr above) (inl below) = inl (above, below)
    by (inr above) (inr past) = inr (λ p. let below = p.1 in absurd (omega arith))

pub bookkeeping_or_not : (L : VolumeLayout) (numbers : List ℕ) (x : ℕ) → IsBookkeeping L numbers x ⊎ (¬ IsBookkeeping L numbers x)
bookkeeping_or_not L numbers x = by (index_or_not L x) (contains_or_not (drop 1 L.bitmap) x) (header_or_not L numbers x)
  where
    by : IsIndexBitmap L x ⊎ (¬ IsIndexBitmap L x) → IsStorageBitmap L x ⊎ (¬ IsStorageBitmap L x) → IsHeaderPlace L numbers x ⊎ (¬ IsHeaderPlace L numbers x)
        → IsBookkeeping L numbers x ⊎ (¬ IsBookkeeping L numbers x)
    by (inl i) s h = inl (inl i)
    by (inr i) (inl s) h = inl (inr (inl s))
    by (inr i) (inr s) (inl h) = inl (inr (inr h))
    by (inr i) (inr s) (inr h) = inr none
      where
        none : ¬ IsBookkeeping L numbers x
        none (inl j) = i j
        none (inr (inl t)) = s t
        none (inr (inr k)) = h k

module _ (I : List (List ℕ)) (L : VolumeLayout) (S : IsSoundBy I L) where
  pub index_holds : (i b : ℕ) → slice_get L.index i ≡ Some b → Holds I L 1 (i + 1) b
  index_holds i b e = holds_at I L 1 L.index i b S.layout.index e

  pub bitmap_holds : (i b : ℕ) → slice_get L.bitmap i ≡ Some b → Holds I L 2 (i + 1) b
  bitmap_holds i b e = holds_at I L 2 L.bitmap i b S.layout.bitmap e

  -- on a sound volume no block of INDEXF.SYS or BITMAP.SYS stands twice
  pub well_placed : IsWellPlaced L
  well_placed = record {
    index_place = S.index_place;
    index_once = λ i j b p q. let same = (S.once 1 1 (i + 1) (j + 1) b (index_holds i b p) (index_holds j b q)).1 in omega (arith, same);
    bitmap_once = λ i j b p q. let same = (S.once 2 2 (i + 1) (j + 1) b (bitmap_holds i b p) (bitmap_holds j b q)).1 in omega (arith, same);
    apart = λ i j b c p q e.
        let same = (S.once 1 2 (i + 1) (j + 1) c (index_holds i c (p ∙ ap (λ x. Some x) e)) (bitmap_holds j c q)).0 in
        absurd (omega (arith, same));
  }

module _ {I : List (List ℕ)} {L : VolumeLayout} (S : IsSoundBy I L) where
  -- file 1 or 2 holds the block, and it is not VBN 1 or 2 of INDEXF.SYS
  abbrev pub IsHeldBySystem : ℕ → Type 0
  IsHeldBySystem x = ((v : ℕ) × Holds I L 1 v x × (3 ≤ v)) ⊎ ((v : ℕ) × Holds I L 2 v x)

  pub bookkeeping_held : (numbers : List ℕ) (x : ℕ) → IsBookkeeping L numbers x → IsHeldBySystem x
  bookkeeping_held numbers x (inl at) =
      let i : ℕ = x - L.home.index_bitmap_lbn in
      let low = at.0 in let high = at.1 in
      let is : L.home.index_bitmap_lbn + i ≡ x = omega arith in
      inl (2 + i + 1, index_holds I L S (2 + i) x (S.index_place i (omega arith) ∙ ap (λ z. Some z) is), omega arith)
  bookkeeping_held numbers x (inr (inl stands)) = let at = storage_at L x stands in inr (at.0 + 1, bitmap_holds I L S at.0 x at.1)
  bookkeeping_held numbers x (inr (inr p)) =
      let some = numbered L p.0 x p.2 in
      inl (2 + L.home.index_bitmap_size + p.0, header_held I L S p.0 x p.2, omega arith)

  -- so a request could write it, and no other file holds it
  pub bookkeeping_written : (numbers : List ℕ) (x : ℕ) → IsBookkeeping L numbers x → CouldBeWritten I L x
  bookkeeping_written numbers x b = by (bookkeeping_held numbers x b)
    where
      by : IsHeldBySystem x → CouldBeWritten I L x
      by (inl p) = inr (1, p.0, p.1, λ e. absurd (omega arith), λ e. absurd (omega arith), λ q. let low = q.1 in let high = p.2 in absurd (omega arith))
      by (inr p) = inr (2, p.0, p.1, λ e. absurd (omega arith), λ e. absurd (omega arith), λ q. let one = q.0 in absurd (omega arith))

  pub no_bookkeeping : (numbers : List ℕ) (m v x : ℕ) → Holds I L m v x → m ≢ 1 → m ≢ 2 → ¬ IsBookkeeping L numbers x
  no_bookkeeping numbers m v x h one two b = by (bookkeeping_held numbers x b)
    where
      by : IsHeldBySystem x → ⊥
      by (inl p) = one (S.once m 1 v p.0 x h p.1).0
      by (inr p) = two (S.once m 2 v p.0 x h p.1).0
