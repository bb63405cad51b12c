-- What loops over the blocks of a file have found so far.
use Rattle.std.proofs.Common.{◌≡◌, ◌≢◌, ℕ, ◌+◌, ◌<◌, ◌≤◌, true, false, sym, ap, ◌∙◌, subst, List, length, slice_get, Some, arith, inl, inr}
use Rattle.std.proofs.lemmas.Bool.{cases_lt}
use Rattle.std.proofs.lemmas.Option.{same_Some, slice_get_within}
use Rattle.ods_space.specs.Layout.{VolumeLayout}
use Rattle.ods_mount.specs.Tables.{IsNoted, IsWith, has}
use Rattle.ods_mount.proofs.Sets.{noted_first, noted_more}
use Rattle.ods_check.specs.HeldFree.{IsHeldBesides}
use Rattle.ods_repair.specs.Framed.{IsFixedPlace}
use Rattle.ods_repair.specs.Spare.{AreApart, AreOnce}

-- the set has the first i of these numbers, and none of them came twice
abbrev pub AreSeenOnce : List ℕ → ℕ → List ℕ → Type 0
AreSeenOnce xs i set = (start : List ℕ) × ((b : ℕ) → has start b ≡ false) × IsNoted start set xs i

pub none_seen : (xs set : List ℕ) → ((b : ℕ) → has set b ≡ false) → AreSeenOnce xs 0 set
none_seen xs set empty = (set, empty, noted_first set xs)

pub one_seen : (xs : List ℕ) (i b : ℕ) (old new : List ℕ) → AreSeenOnce xs i old → slice_get xs i ≡ Some b → has old b ≡ false → IsWith new old b → AreSeenOnce xs (i + 1) new
one_seen xs i b old new s at absent with_b = (s.0, s.1, noted_more s.0 xs i b old new s.2 at absent with_b)

pub all_seen : (xs : List ℕ) (i : ℕ) (set : List ℕ) → length xs ≤ i → AreSeenOnce xs i set → AreOnce xs
all_seen xs i set end s j k b p q =
    s.2.distinct j k b (let low = slice_get_within xs j b p in omega (arith, low, end)) (let low = slice_get_within xs k b q in omega (arith, low, end)) p q

-- one that is in the set came before
pub came_before : (xs : List ℕ) (i b : ℕ) (set : List ℕ) → AreSeenOnce xs i set → slice_get xs i ≡ Some b → has set b ≡ true
    → (j : ℕ) × (k : ℕ) × (j ≢ k) × (slice_get xs j ≡ Some b) × (slice_get xs k ≡ Some b)
came_before xs i b set s at there = elim (s.2.only b there) [
  | inl was ↦ absurd (let clash : true ≡ false = sym was ∙ s.1 b in cc)
  | inr (j, low, is) ↦ (j, i, (λ e. absurd (omega (arith, e, low))), is, at)
]

module _ (I : List (List ℕ)) (L : VolumeLayout) (n : ℕ) (blocks : List ℕ) (first : ℕ) where
  -- those before place i are no fixed places, and no other file holds one
  abbrev pub AreApartBelow : ℕ → Type 0
  AreApartBelow i = (j b : ℕ) → first ≤ j → j < i → slice_get blocks j ≡ Some b → (¬ IsFixedPlace L b) × ¬ IsHeldBesides I L n b

  pub none_apart : AreApartBelow first
  none_apart j b some low at = absurd (omega (arith, some, low))

  pub one_apart : (i b : ℕ) → AreApartBelow i → slice_get blocks i ≡ Some b → ¬ IsFixedPlace L b → ¬ IsHeldBesides I L n b → AreApartBelow (i + 1)
  one_apart i b before here fixed held j c some low at = elim (cases_lt j i) [
    | inl less ↦ before j c some less at
    | inr more ↦
        let e : i ≡ j = omega (arith, more, low) in
        let same : b ≡ c = same_Some b c (sym here ∙ ap (slice_get blocks) e ∙ at) in
        (subst (λ x. ¬ IsFixedPlace L x) same fixed, subst (λ x. ¬ IsHeldBesides I L n x) same held)
  ]

  pub all_apart : (i : ℕ) → length blocks ≤ i → AreApartBelow i → AreApart I L n blocks first
  all_apart i end before b has =
      let low : has.0 < length blocks = slice_get_within blocks has.0 b has.2 in
      before has.0 b has.1 (omega (arith, low, end)) has.2
