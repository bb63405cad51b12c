-- A chain each of whose headers stood as it does in the image before was a chain there. So what is noted of where it ends stays true.
use Rattle.std.proofs.Common.{◌≡◌, ◌≢◌, ℕ, suc, ◌+◌, ◌-◌, ◌*◌, ◌<◌, ◌≤◌, refl, ap, sym, ◌∙◌, subst, Bool, true, false, IsTrue, not, ◌&&◌, ◌||◌, List, [], ◌∷◌, ◌++◌, length, Some, arith, inl, inr}
use Rattle.std.specs.Prelude.{◌⊎◌}
use Rattle.std.specs.List.{Contains}
use Rattle.std.proofs.lemmas.Bool.{cases_eq}
use Rattle.std.proofs.lemmas.Map.Made.{Contains-tail}
use Rattle.ods_base.specs.Block.{zeros}
use Rattle.ods_base.proofs.Blocks.{byte-zeros}
use Rattle.ods_header.specs.declared.home.Home.{Home}
use Rattle.ods_header.specs.Header.{IsValidHeader, blocks_of, number_of, next_number_of, next_sequence_of, next_volume_of, segment_of, sequence_of}
use Rattle.ods_space.specs.Layout.{VolumeLayout, header_by, is_in_use, last_number, limit_by, place_of}
use Rattle.ods_space.specs.Chain.{Follows, IsChain, IsSegment, known}
use Rattle.ods_space.specs.Files.{IsFile}
use Rattle.ods_space.proofs.Chains.{head_of}
use Rattle.ods_space.proofs.Surveyed.{index_for_other}
use Rattle.ods_alloc.specs.Extend.{IsIndexBitmap, IsStorageBitmap}
use Rattle.ods_alloc.proofs.Places.{storage_at}
use Rattle.ods_mount.specs.Sound.{IsSoundBy}
use Rattle.ods_state.specs.declared.known_end.KnownEnd.{KnownEnd}
use Rattle.ods_state.specs.Ends.{IsEndKnown}
use Rattle.ods_state.proofs.Bookkeeping.{well_placed}
use Rattle.ods_state.proofs.Chains.{first_in, later_in}
use Rattle.ods_state.proofs.Links.{numbered, placed}
use Rattle.ods_state.proofs.Taken.{none_empty}

-- header m is counted by the blocks of INDEXF.SYS before, was in use, and is the block that it was
pub record StoodBefore (I J : List (List ℕ)) (h : Home) (index later : List ℕ) (m : ℕ) : Type 0 where
  pub last : m ≤ limit_by h (length index - h.index_bitmap_size - 2)
  pub in_use : IsTrue (is_in_use I h m)
  pub same : header_by J h later m ≡ header_by I h index m

segment_back : (I J : List (List ℕ)) (h : Home) (index later : List ℕ) (most m k : ℕ) → StoodBefore I J h index later m → IsSegment J h later most m k
    → IsSegment I h index (limit_by h (length index - h.index_bitmap_size - 2)) m k
segment_back I J h index later most m k b s = record {
  first = s.first;
  last = b.last;
  in_use = b.in_use;
  valid = subst (λ c. IsValidHeader c m) b.same s.valid;
  segment = ap segment_of (sym b.same) ∙ s.segment;
}

follows_back : (I J : List (List ℕ)) (h : Home) (index later front : List ℕ) (k n : ℕ) (ms all : List ℕ) → ((m : ℕ) → Contains (n ∷ ms) m → StoodBefore I J h index later m)
    → Follows J h (Some later) front k n ms all → Follows I h (Some index) front k n ms all
follows_back I J h index later front k n [] all each f =
    let b = each n (first_in n []) in (
      segment_back I J h index later _ n k b f.0,
      ap next_number_of (sym b.same) ∙ f.1,
      f.2 ∙ ap (λ c. front ++ blocks_of c) b.same,
    )
follows_back I J h index later front k n (m ∷ ms) all each f =
    let b = each n (first_in n (m ∷ ms)) in
    let next = each m (later_in n (m ∷ ms) m (first_in m ms)) in (
      segment_back I J h index later _ n k b f.0,
      ap next_number_of (sym b.same) ∙ f.1,
      ap next_volume_of (sym b.same) ∙ f.2,
      ap sequence_of (sym next.same) ∙ f.3 ∙ ap next_sequence_of b.same,
      follows_back I J h index later (front ++ blocks_of (header_by I h index n)) (suc k) m ms all (λ x c. each x (later_in n (m ∷ ms) x c))
          (subst (λ c. Follows J h (Some later) (front ++ blocks_of c) (suc k) m ms all) b.same f.4),
    )

-- each header of a chain is some segment of it
segment_in : (J : List (List ℕ)) (h : Home) (later front : List ℕ) (k n : ℕ) (ms all : List ℕ) → Follows J h (Some later) front k n ms all → (x : ℕ) → Contains (n ∷ ms) x
    → (j : ℕ) × IsSegment J h later (limit_by h (length later - h.index_bitmap_size - 2)) x j
segment_in J h later front k n [] all f x c = by (cases_eq n x)
  where
    by : (n ≡ x) ⊎ (n ≢ x) → (j : ℕ) × IsSegment J h later (limit_by h (length later - h.index_bitmap_size - 2)) x j
    by (inl e) = (k, subst (λ y. IsSegment J h later (limit_by h (length later - h.index_bitmap_size - 2)) y k) e f.0)
    by (inr ne) = absurd (none_empty x (Contains-tail n [] x ne c))
segment_in J h later front k n (m ∷ ms) all f x c = by (segment_in J h later (front ++ blocks_of (header_by J h later n)) (suc k) m ms all f.4 x) (cases_eq n x)
  where
    by : (Contains (m ∷ ms) x → (j : ℕ) × IsSegment J h later (limit_by h (length later - h.index_bitmap_size - 2)) x j) → (n ≡ x) ⊎ (n ≢ x)
        → (j : ℕ) × IsSegment J h later (limit_by h (length later - h.index_bitmap_size - 2)) x j
    by rest (inl e) = (k, subst (λ y. IsSegment J h later (limit_by h (length later - h.index_bitmap_size - 2)) y k) e f.0)
    by rest (inr ne) = rest (Contains-tail n (m ∷ ms) x ne c)

-- header m is one of the chain of file f, and so is a segment of it
pub record IsOfChain (J : List (List ℕ)) (M : VolumeLayout) (f : ℕ) (others blocks : List ℕ) (m : ℕ) : Type 0 where
  pub chain : IsChain J M f others blocks
  pub file : IsFile J M f
  pub one : Contains (f ∷ others) m
  pub segment : ℕ
  pub is : IsSegment J M.home M.index (last_number M) m segment

module _ (J : List (List ℕ)) (M : VolumeLayout) (f : ℕ) (other : f ≢ 1) (others blocks : List ℕ) (chain : IsChain J M f others blocks) where
  found : Follows J M.home (Some M.index) [] 0 f others blocks
  found = subst (λ x. Follows J M.home x [] 0 f others blocks) (index_for_other M f other) chain

  of_chain : (m : ℕ) → Contains (f ∷ others) m → IsOfChain J M f others blocks m
  of_chain m c = let at = segment_in J M.home M.index [] 0 f others blocks found m c in
      record { chain = chain; file = head_of J M.home (Some M.index) [] 0 f others blocks found; one = c; segment = at.0; is = at.1 }

-- where each header of the chain that a file has then stood as it does before, what is noted of its end is true still
pub end_back : (I J : List (List ℕ)) (L M : VolumeLayout) → M.home ≡ L.home → (end : KnownEnd) → end.file ≢ 1
    → ((others blocks : List ℕ) (m : ℕ) → IsOfChain J M end.file others blocks m → StoodBefore I J L.home L.index M.index m)
    → IsEndKnown I L end → IsEndKnown J M end
end_back I J L M home end other stood known = λ others blocks chain.
    let then : Follows J L.home (Some M.index) [] 0 end.file others blocks = subst (λ h. Follows J h (Some M.index) [] 0 end.file others blocks) home (found J M end.file other others blocks chain) in
    let before : Follows I L.home (Some L.index) [] 0 end.file others blocks =
    follows_back I J L.home L.index M.index [] 0 end.file others blocks (λ m c. stood others blocks m (of_chain J M end.file other others blocks chain m c)) then in
    known others blocks (subst (λ x. Follows I L.home x [] 0 end.file others blocks) (sym (index_for_other L end.file other)) before)

-- the block of a header is of neither bitmap
module _ (I : List (List ℕ)) (L : VolumeLayout) (S : IsSoundBy I L) (m y : ℕ) (place : place_of L m ≡ Some y) where
  pub no_index_bitmap : ¬ IsIndexBitmap L y
  no_index_bitmap within =
      let low = within.0 in
      let high = within.1 in
      let i : ℕ = y - L.home.index_bitmap_lbn in
      let is : L.home.index_bitmap_lbn + i ≡ y = omega arith in
      let bound : i < L.home.index_bitmap_size + 16 = omega arith in
      let some : 1 ≤ m = numbered L m y place in
      let same = (well_placed I L S).index_once (2 + i) (1 + L.home.index_bitmap_size + m) y (S.index_place i bound ∙ ap Some is) (placed I L S m y place) in
      absurd (omega (arith, same))

  pub no_storage_bitmap : ¬ IsStorageBitmap L y
  no_storage_bitmap stands = let at = storage_at L y stands in (well_placed I L S).apart (1 + L.home.index_bitmap_size + m) at.0 y y (placed I L S m y place) at.1 refl

-- a bit that is set, though another test does not count
pub left_of : (a b : Bool) → IsTrue (a || b) → b ≡ false → IsTrue a
left_of true b set none = refl
left_of false b set none = absurd (let clash : false ≡ true = sym none ∙ set in cc)

pub first_of_two : (a b : Bool) → IsTrue (a && b) → IsTrue a
first_of_two true b set = refl
first_of_two false b set = set

pub not_second : (a b : Bool) → IsTrue (a && not b) → b ≡ true → ⊥
not_second true true set is = absurd (cc)
not_second true false set is = absurd (cc)
not_second false b set is = absurd (cc)

-- a block of zeros has no number
pub no_header : (b : List ℕ) (n : ℕ) → 1 ≤ n → b ≡ zeros → ¬ IsValidHeader b n
no_header b n some is valid =
    let number : number_of b ≡ n = valid.header.numbered in
    let none : number_of zeros ≡ 0 = (λ i. byte-zeros 2 i + 256 * byte-zeros 3 i) in
    absurd (omega (arith, number, ap number_of is, none))
