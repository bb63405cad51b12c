-- INDEXF.SYS grown for files to come: the volume is then what is promised.
use Rattle.std.proofs.Common.{◌≡◌, ◌≢◌, ℕ, ◌+◌, ◌≤◌, refl, ap, sym, ◌∙◌, subst, List, [], ◌++◌, length, drop, arith, inl, inr}
use Rattle.std.specs.Prelude.{◌⊎◌}
use Rattle.std.specs.List.{All, Contains, filter, range_with_len}
use Rattle.std.proofs.lemmas.List.{append-nil, length-take}
use Rattle.ods_base.specs.Block.{zeros}
use Rattle.ods_base.specs.Image.{IsImage, block_at}
use Rattle.ods_space.specs.Free.{free_blocks, free_numbers, is_open_number}
use Rattle.ods_space.specs.Layout.{VolumeLayout, greatest_number, last_number, with_places}
use Rattle.ods_alloc.specs.Extend.{cut}
use Rattle.ods_mount.specs.Sound.{IsSoundBy}
use Rattle.ods_state.specs.IndexGrowth.{CanGrowIndex, GrowsIndex}
use Rattle.ods_state.specs.Wants.{allocated_blocks}
use Rattle.ods_state.proofs.GrownMoves.{no_places}
use Rattle.ods_state.proofs.IndexFree as index_free
use Rattle.ods_state.proofs.IndexGrown.{is_longer, longer}
use Rattle.ods_state.proofs.IndexSound as index_sound
use Rattle.ods_change.specs.Beginning.{IsBegun}
use Rattle.ods_change.specs.IndexGrown.{IsIndexGrown, LacksHeaders}
use Rattle.ods_change.specs.Taking.{HasPlaces}
use Rattle.ods_change.proofs.Begun.{can_grow_by}

-- the numbers up to the last are those up to none more
numbers_still : (I : List (List ℕ)) (L : VolumeLayout) (count : ℕ) → count ≡ 0 → free_numbers I L ≡ filter (is_open_number I L (last_number L + count)) (range_with_len 1 (last_number L + count))
unfolding free_numbers
numbers_still I L count none = let same : last_number L ≡ last_number L + count = omega (arith, none) in λ i. filter (is_open_number I L (same i)) (range_with_len 1 (same i))

module _ {I : List (List ℕ)} {L : VolumeLayout} {count : ℕ} {places : List ℕ} (image : IsImage I) (S : IsSoundBy I L) (has : HasPlaces I L 0 count places)
    (most : last_number L + count ≤ greatest_number L.home) where
  can : CanGrowIndex I L places
  can = can_grow_by 0 count S has most

  lowest : places ≡ allocated_blocks I L count
  lowest = has.are

  long : length places ≡ count
  long = let enough = has.enough in omega (arith, enough, ap length lowest, length-take count (free_blocks I L))

  enough : ¬ LacksHeaders I L count
  enough (inl past) = absurd (omega (arith, most, past))
  enough (inr (inl few)) = let fits = has.enough in absurd (omega (arith, few, fits))
  enough (inr (inr full)) = let fits = has.room in absurd (omega (arith, full, fits, ap (λ l. length (cut l)) lowest))

  -- where it gets none
  none_more : places ≡ [] → IsIndexGrown I L count I L
  none_more empty =
      let none : count ≡ 0 = omega (arith, long, ap length empty) in
      let taken : allocated_blocks I L count ≡ [] = sym lowest ∙ empty in
      let index : L.index ≡ L.index ++ allocated_blocks I L count = sym (append-nil L.index) ∙ ap (λ l. L.index ++ l) (sym taken) in
      record {
        sound = S;
        shown = λ C. ((λ shown. shown), (λ shown. shown));
        past = λ C spent. spent;
        enough = enough;
        layout = λ i. record { home = L.home; index = index i; bitmap = L.bitmap };
        zeroed = subst (All (λ lbn. block_at I lbn ≡ zeros)) (sym taken) (λ i d low. absurd (omega (arith, low)));
        size = refl;
        elsewhere = λ lbn bitmap header out. refl;
        blocks = sym (ap (λ k. drop k (free_blocks I L)) none);
        numbers = numbers_still I L count none;
      }

  some_more : {K : List (List ℕ)} → GrowsIndex I L places K → IsIndexGrown I L count K (longer L places)
  some_more {K = K} g = record {
    sound = index_sound.sound_now image S can g;
    shown = λ C. (index_sound.shown_now image S can g C, index_sound.shown_was image S can g C);
    past = index_sound.past_now image S can g;
    enough = enough;
    layout = λ i. record { home = L.home; index = L.index ++ lowest i; bitmap = L.bitmap };
    zeroed = subst (All (λ lbn. block_at K lbn ≡ zeros)) lowest g.zeroed;
    size = g.size;
    elsewhere = λ lbn bitmap header out. g.others lbn bitmap header (λ own. out (subst (λ l. Contains l lbn) lowest own));
    blocks = index_free.free_behind image S can g count lowest;
    numbers = index_free.numbers_now image S can g count long most;
  }

  -- the volume with which a request would go on is the one with more headers
  pub has_more_headers : {K : List (List ℕ)} {M : VolumeLayout} → IsBegun I L places K M → IsIndexGrown I L count K (with_places L places)
  has_more_headers {K = K} b = by b.blocks
    where
      by : ((places ≡ []) × (K ≡ I)) ⊎ ((places ≢ []) × GrowsIndex I L places K) → IsIndexGrown I L count K (with_places L places)
      by (inl p) = subst (IsIndexGrown I L count K) (sym (no_places L places p.0)) (subst (λ J. IsIndexGrown I L count J L) (sym p.1) (none_more p.0))
      by (inr p) = subst (IsIndexGrown I L count K) (sym (is_longer L places can.fits)) (some_more p.1)
