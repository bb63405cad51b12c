-- INDEXF.SYS grown for a request: what the request takes of the grown volume is what it took of the volume before, and it need not grow again.
use Rattle.std.proofs.Common.{◌≡◌, ◌≢◌, ℕ, suc, ◌+◌, ◌/◌, ◌≤◌, refl, ap, sym, ◌∙◌, subst, Bool, true, false, cond, not, ◌&&◌, nat_le, nat_lt, List, [], ◌∷◌, ◌++◌, length, drop, take, get_or, Some, None, arith, inl, inr}
use Rattle.std.specs.Prelude.{◌⊎◌}
use Rattle.std.specs.List.{Contains, filter, range_with_len}
use Rattle.std.proofs.lemmas.Bool.{and_parts, cases_eq, le-ltb, leb-true, ne_eqb, or_from}
use Rattle.std.proofs.lemmas.List.{length-append, length-drop, length-take, take-append-drop, take-append-le, take_all}
use Rattle.std.proofs.lemmas.List.Elements.{Contains-append_left, Contains-get_or, filter-append}
use Rattle.std.proofs.lemmas.Map.Made.{Contains-tail}
use Rattle.ods_base.specs.Image.{IsImage}
use Rattle.ods_header.specs.Header.{blocks_of, room_of, sequence_of}
use Rattle.ods_space.specs.Layout.{VolumeLayout, greatest_number, header_at, is_in_use, last_number}
use Rattle.ods_space.specs.Chain.{Follows, IsChain}
use Rattle.ods_space.specs.Files.{IsFile}
use Rattle.ods_space.specs.Free.{free_blocks, is_open_number, open_numbers}
use Rattle.ods_space.proofs.Chains.{head_of}
use Rattle.ods_alloc.specs.Extend.{cut, is_one_of, last_of}
use Rattle.ods_alloc.proofs.Fields.{last_in}
use Rattle.ods_mount.specs.Sound.{IsSoundBy}
use Rattle.ods_request.specs.declared.refusals.Refusal.{Refusal}
use Rattle.ods_request.specs.Faults.{first_of}
use Rattle.ods_state.specs.IndexGrowth.{CanGrowIndex, GrowsIndex, WantsTheSame}
use Rattle.ods_state.specs.Wants.{HasHeaders, index_blocks, index_end, index_growth, lack_for, lack_of, new_headers, room_in, allocated_blocks, allocated_count, allocated_numbers}
use Rattle.ods_state.proofs.GrowthAllocates.{IsEnough, is_enough}
use Rattle.ods_state.proofs.IndexFree as index_free
use Rattle.ods_state.proofs.IndexFree.{apart_from_lowest, keep_all}
use Rattle.ods_state.proofs.IndexGrown as grown
use Rattle.ods_state.proofs.IndexGrown.{longer}
use Rattle.ods_state.proofs.OpenNumbers.{allocated_number_is_open}
use Rattle.ods_state.proofs.Taken.{none_empty, none_of}

-- each header of a chain is within the last number
bounds_in : (I : List (List ℕ)) (L : VolumeLayout) (front : List ℕ) (k n : ℕ) (ms all : List ℕ) → Follows I L.home (Some L.index) front k n ms all
    → (x : ℕ) → Contains (n ∷ ms) x → (1 ≤ x) × (x ≤ last_number L)
bounds_in I L front k n [] all f x c = by (cases_eq n x)
  where
    by : (n ≡ x) ⊎ (n ≢ x) → (1 ≤ x) × (x ≤ last_number L)
    by (inl e) = subst (λ y. (1 ≤ y) × (y ≤ last_number L)) e (f.0.first, f.0.last)
    by (inr ne) = absurd (none_empty x (Contains-tail n [] x ne c))
bounds_in I L front k n (m ∷ ms) all f x c = by (cases_eq n x) (bounds_in I L (front ++ blocks_of (header_at I L n)) (suc k) m ms all f.4 x)
  where
    by : (n ≡ x) ⊎ (n ≢ x) → (Contains (m ∷ ms) x → (1 ≤ x) × (x ≤ last_number L)) → (1 ≤ x) × (x ≤ last_number L)
    by (inl e) rest = subst (λ y. (1 ≤ y) × (y ≤ last_number L)) e (f.0.first, f.0.last)
    by (inr ne) rest = rest (Contains-tail n (m ∷ ms) x ne c)

none_of_these : (a b c : Bool) (f g h : Refusal) → a ≡ false → b ≡ false → c ≡ false → first_of ((a, f) ∷ (b, g) ∷ (c, h) ∷ []) ≡ None
none_of_these false false false f g h p q s = refl
none_of_these true b c f g h p q s = absurd (cc)
none_of_these false true c f g h p q s = absurd (cc)
none_of_these false false true f g h p q s = absurd (cc)

-- where there is enough, nothing is lacking
pub nothing_lacks : (I : List (List ℕ)) (L : VolumeLayout) (headers : List ℕ) (count : ℕ) → IsEnough I L headers count → lack_of I L headers count ≡ None
unfolding lack_for
nothing_lacks I L headers count e =
    none_of_these _ _ _ _ _ _
    (le-ltb (length (free_blocks I L)) count e.blocks)
    (or_from _ _ (le-ltb (length (open_numbers I L)) (allocated_count I L headers count) e.numbers)
    (or_from _ _ (le-ltb (length (free_blocks I L)) (count + index_growth L (allocated_numbers I L headers count)) e.places)
    (le-ltb (room_of (header_at I L (index_end I L)) / 2) (length (cut (index_blocks I L headers count))) e.room)))
    (le-ltb 256 (length headers + allocated_count I L headers count) e.segments)

no_runs_of : (xs : List ℕ) → xs ≡ [] → length (cut xs) ≡ 0
unfolding cut
no_runs_of [] none = refl
no_runs_of (x ∷ xs) none = absurd (cc)

-- the last number that is taken is none past the greatest
last_taken : (I : List (List ℕ)) (L : VolumeLayout) (headers : List ℕ) (count : ℕ) → last_of 0 (allocated_numbers I L headers count) ≤ greatest_number L.home
last_taken I L headers count = by (allocated_numbers I L headers count) (λ m c. allocated_number_is_open I L headers count m c)
  where
    most : ℕ
    most = greatest_number L.home

    by : (ns : List ℕ) → ((m : ℕ) → Contains ns m → is_open_number I L most m ≡ true) → last_of 0 ns ≤ most
    by [] each = omega arith
    by (n ∷ ns) each =
        let p = and_parts (nat_le 6 (last_of n ns)) (nat_le (last_of n ns) most && (not (is_in_use I L.home (last_of n ns)) && nat_lt (sequence_of (header_at I L (last_of n ns))) 65535)) (each (last_of n ns) (last_in n ns)) in
        let q = and_parts (nat_le (last_of n ns) most) (not (is_in_use I L.home (last_of n ns)) && nat_lt (sequence_of (header_at I L (last_of n ns))) 65535) p.1 in
        leb-true (last_of n ns) most q.0

-- there are as many blocks for INDEXF.SYS as it is to get, and it can grow by them
pub so_many_places : (I : List (List ℕ)) (L : VolumeLayout) (headers : List ℕ) (count : ℕ) → IsEnough I L headers count
    → length (index_blocks I L headers count) ≡ index_growth L (allocated_numbers I L headers count)
so_many_places I L headers count e =
    let fits = e.places in
    omega (arith, fits, length-take (index_growth L (allocated_numbers I L headers count)) (drop count (free_blocks I L)), length-drop count (free_blocks I L))

pub can_grow : (I : List (List ℕ)) (L : VolumeLayout) → IsSoundBy I L → (headers : List ℕ) (count : ℕ) → lack_of I L headers count ≡ None → CanGrowIndex I L (index_blocks I L headers count)
can_grow I L S headers count none =
    let e = is_enough I L headers count none in
    let long = so_many_places I L headers count e in
    record {
      before = count;
      free = ap (λ k. take k (drop count (free_blocks I L))) (sym long);
      fits = let last = last_taken I L headers count in let size = S.index_bitmap_size in omega (arith, long, last, size);
      room = e.room;
    }

-- a file that is none of the two maps had these, or it is new and had none
abbrev pub HadThese : List (List ℕ) → VolumeLayout → List ℕ → List ℕ → Type 0
HadThese I L headers old = ((headers ≡ []) × (old ≡ [])) ⊎ ((n : ℕ) × (3 ≤ n) × HasHeaders I L n headers old)

module _ (I K : List (List ℕ)) (L : VolumeLayout) (headers old : List ℕ) (count : ℕ) (image : IsImage I) (S : IsSoundBy I L) (enough : lack_of I L headers count ≡ None)
    (had : HadThese I L headers old) (g : GrowsIndex I L (index_blocks I L headers count) K) where
  abbrev pub X : List ℕ
  X = index_blocks I L headers count

  abbrev pub M : VolumeLayout
  M = longer L X

  pub can : CanGrowIndex I L X
  can = can_grow I L S headers count enough

  there : IsEnough I L headers count
  there = is_enough I L headers count enough

  -- the sequence word of each number stays
  pub sequence_stays : (n : ℕ) → sequence_of (header_at K M n) ≡ sequence_of (header_at I L n)
  sequence_stays n = index_free.sequence_stays image S can g n

  pub open_stays : (most n : ℕ) → is_open_number K M most n ≡ is_open_number I L most n
  open_stays most n = index_free.open_stays image S can g most n

  pub open_numbers_stay : open_numbers K M ≡ open_numbers I L
  unfolding open_numbers
  open_numbers_stay = λ i. filter (λ n. open_stays (greatest_number L.home) n i) (range_with_len 1 (greatest_number L.home))

  -- the file's own blocks are none of those that INDEXF.SYS gets
  pub apart_from_taken : (y : ℕ) → Contains (allocated_blocks I L count) y → ¬ Contains X y
  apart_from_taken y a b =
      let behind : List ℕ = drop count (free_blocks I L) in
      let growth : ℕ = index_growth L (allocated_numbers I L headers count) in
      apart_from_lowest I L count y a (subst (λ l. Contains l y) (take-append-drop growth behind) (Contains-append_left (take growth behind) (drop growth behind) y b))

  pub blocks_stay : allocated_blocks K M count ≡ allocated_blocks I L count
  blocks_stay =
      let F : List ℕ = free_blocks I L in
      let q : ℕ → Bool = λ x. not (is_one_of X x) in
      let A : List ℕ = take count F in
      let kept : filter q A ≡ A = keep_all q A (λ i d low. ap not (none_of X (get_or A i d) (apart_from_taken (get_or A i d) (Contains-get_or A i d low)))) in
      let all : free_blocks K M ≡ A ++ filter q (drop count F) =
      index_free.free_are image S can g ∙ ap (filter q) (sym (take-append-drop count F)) ∙ filter-append q A (drop count F) ∙ ap (λ l. l ++ filter q (drop count F)) kept in
      let some = there.blocks in
      let long : length A ≡ count = length-take count F ∙ omega (arith, some) in
      ap (take count) all ∙ take-append-le count A (filter q (drop count F)) (omega (arith, long)) ∙ take_all count A (omega (arith, long))

  -- each header that the file had is within the last number, and stays
  abbrev pub IsKept : ℕ → Type 0
  IsKept m = (1 ≤ m) × (m ≤ last_number L) × (header_at K M m ≡ header_at I L m)

  pub own_kept : (m : ℕ) → Contains headers m → IsKept m
  own_kept m c = by had
    where
      by : HadThese I L headers old → IsKept m
      by (inl none) = absurd (none_empty m (subst (λ l. Contains l m) none.0 c))
      by (inr p) =
          let n : ℕ = p.0 in
          let high : 3 ≤ n = p.1 in
          let others : List ℕ = p.2.0 in
          let one : n ≢ 1 = λ is. absurd (omega (arith, high, is)) in
          let chain : IsChain I L n others old = p.2.2.chain in
          let along : Follows I L.home (Some L.index) [] 0 n others old = subst (λ t. Follows I L.home (cond t None (Some L.index)) [] 0 n others old) (ne_eqb n 1 one) chain in
          let file : IsFile I L n = head_of I L.home (Some L.index) [] 0 n others old along in
          let among : Contains (n ∷ others) m = subst (λ l. Contains l m) p.2.1 c in
          let bounds = bounds_in I L [] 0 n others old along m among in
          (bounds.0, bounds.1, grown.same_header image S can g m bounds.0 bounds.1 (grown.far_from_end image S can g n others old one file chain m among))

  pub own_stays : (m : ℕ) → Contains headers m → header_at K M m ≡ header_at I L m
  own_stays m c = (own_kept m c).2

  pub room_stays : room_in K M headers ≡ room_in I L headers
  room_stays = by headers own_stays
    where
      by : (hs : List ℕ) → ((m : ℕ) → Contains hs m → header_at K M m ≡ header_at I L m) → room_in K M hs ≡ room_in I L hs
      by [] each = refl
      by (n ∷ os) each = ap room_of (each (last_of n os) (last_in n os))

  pub count_stays : allocated_count K M headers count ≡ allocated_count I L headers count
  count_stays = λ i. new_headers (length headers) (room_stays i) (length (cut (blocks_stay i)))

  pub numbers_stay : allocated_numbers K M headers count ≡ allocated_numbers I L headers count
  numbers_stay = λ i. take (count_stays i) (open_numbers_stay i)

  -- each number that is taken has a block now
  pub no_growth : index_growth M (allocated_numbers K M headers count) ≡ 0
  no_growth =
      let last = last_taken I L headers count in
      let long = so_many_places I L headers count there in
      let size = S.index_bitmap_size in
      let all = length-append L.index X in
      let same = ap (last_of 0) numbers_stay in
      omega (arith, last, long, size, all, same)

  pub no_more : index_blocks K M headers count ≡ []
  no_more = ap (λ k. take k (drop count (free_blocks K M))) no_growth

  pub enough_now : lack_of K M headers count ≡ None
  enough_now =
      let some : count ≤ length (free_blocks K M) =
      (let before = there.blocks in omega (arith, before, ap length blocks_stay, length-take count (free_blocks K M), length-take count (free_blocks I L))) in
      nothing_lacks K M headers count (record {
        blocks = some;
        numbers = let before = there.numbers in omega (arith, before, count_stays, ap length open_numbers_stay);
        places = omega (arith, some, no_growth);
        room = omega (arith, no_runs_of (index_blocks K M headers count) no_more);
        segments = let before = there.segments in omega (arith, before, count_stays);
      })

  pub wants_the_same : WantsTheSame I L headers count K M
  wants_the_same = record { blocks = blocks_stay; numbers = numbers_stay; no_growth = no_growth; enough = enough_now }
