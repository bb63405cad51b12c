-- Where only the blocks of the bitmaps and of some headers change, the other headers stay. This serves each request that gives blocks back.
use Rattle.std.proofs.Common.{◌≡◌, ℕ, refl, subst, true, false, List, [], ◌∷◌, Option, Some, None, inl, inr}
use Rattle.std.specs.Prelude.{◌⊎◌}
use Rattle.std.specs.Option.{option_map_or}
use Rattle.std.specs.List.{Contains}
use Rattle.std.proofs.lemmas.Bool.{cases_eq}
use Rattle.std.proofs.lemmas.Map.Made.{Contains-tail}
use Rattle.ods_state.proofs.Taken.{contains_or_not, none_of, one_of}
use Rattle.ods_state.proofs.Bookkeeping.{well_placed}
use Rattle.ods_base.specs.Image.{block_at}
use Rattle.ods_space.specs.Layout.{VolumeLayout, place_of, header_at}
use Rattle.ods_alloc.specs.Extend.{IsBookkeeping, ChangesOnly, is_one_of}
use Rattle.ods_alloc.proofs.Places.{place_not_index, place_not_storage}
use Rattle.ods_mount.specs.Sound.{IsSoundBy}
use Rattle.ods_state.proofs.Links.{place_is_one}

-- one of a list is its first, or one of the rest
pub first_or_later : (m : ℕ) (ms : List ℕ) (x : ℕ) → Contains (m ∷ ms) x → (m ≡ x) ⊎ Contains ms x
first_or_later m ms x c = elim (cases_eq m x) [ inl same ↦ inl same | inr other ↦ inr (Contains-tail m ms x other c) ]

-- the test of a list tells what is in it
pub among_or_not : (xs : List ℕ) (x : ℕ) → ((is_one_of xs x ≡ true) × Contains xs x) ⊎ ((is_one_of xs x ≡ false) × ¬ Contains xs x)
among_or_not xs x = elim (contains_or_not xs x) [ inl c ↦ inl (one_of xs x c, c) | inr none ↦ inr (none_of xs x none, none) ]

module _ (I : List (List ℕ)) (L : VolumeLayout) (S : IsSoundBy I L) where
  -- where only the bitmaps and these headers change
  module _ (J : List (List ℕ)) (numbers : List ℕ) (O : ChangesOnly I L numbers J) where
    -- the other headers stay
    pub only_headers : (m : ℕ) → ¬ Contains numbers m → header_at J L m ≡ header_at I L m
    only_headers m other = by (place_of L m) refl
      where
        away : (x : ℕ) → place_of L m ≡ Some x → ¬ IsBookkeeping L numbers x
        away x place (inl p) = place_not_index L m x (well_placed I L S) place p
        away x place (inr (inl p)) = place_not_storage L m x (well_placed I L S) place p
        away x place (inr (inr p)) = other (subst (Contains numbers) (place_is_one I L S p.0 m x p.2 place) p.1)

        by : (o : Option ℕ) → place_of L m ≡ o → option_map_or (block_at J) o [] ≡ option_map_or (block_at I) o []
        by None place = refl
        by (Some x) place = O.others x (away x place)
