-- A file of a sound volume that grows: what it takes, what is written before its chain grows, and what the blocks are then.
use Rattle.std.proofs.Common.{◌≡◌, ◌≢◌, ℕ, ◌<◌, List, [], ◌∷◌, ◌++◌, drop, get_or, Some, sym, ap, ◌∙◌, subst, inl, arith}
use Rattle.std.specs.Prelude.{slice_set}
use Rattle.std.specs.List.{Contains}
use Rattle.std.proofs.lemmas.List.Elements.{Contains-get_or}
use Rattle.ods_base.specs.Block.{zeros}
use Rattle.ods_base.specs.Image.{IsImage, block_at}
use Rattle.ods_header.specs.Contiguous.{IsWithoutContiguous, KeepsAllButContiguous}
use Rattle.ods_header.specs.Header.{IsValidHeader}
use Rattle.ods_header.proofs.AllButOne.{one_is_other}
use Rattle.ods_change.proofs.KeptFields.{SaysTheSame, says_the_same}
use Rattle.ods_space.specs.Chain.{IsChain, headers_of, named_by, numbers_of}
use Rattle.ods_space.specs.Files.{IsLayoutOf}
use Rattle.ods_space.specs.Layout.{VolumeLayout, header_at, place_of}
use Rattle.ods_space.specs.Draft.{Changes, applied}
use Rattle.ods_space.proofs.Drafts.{applied_over}
use Rattle.ods_space.proofs.Wholes.{chain_seen}
use Rattle.ods_alloc.specs.Extend.{CanExtend, Extends, with_in_use}
use Rattle.ods_mount.specs.Sound.{IsSoundBy}
use Rattle.ods_state.specs.Wants.{HasHeaders, allocated_blocks}
use Rattle.ods_state.specs.Growth.{IsFirstFor, IsReady, IsTaking, all_headers}
use Rattle.ods_state.proofs.OtherFront.{kept_first}
use Rattle.ods_state.proofs.GrowthChain.{kept_chain, ready_chain}
use Rattle.ods_state.proofs.GrowthMade.{filled, first_fields, first_valid, grows, made}
use Rattle.ods_state.proofs.GrowthReady.{header_stays, ready_layout}
use Rattle.ods_state.proofs.GrowthAllocates.{can_extend}
use Rattle.ods_change.specs.declared.growing.Growing.{Growing}
use Rattle.ods_change.specs.Extending.{IsGrownBy, IsWanted}
use Rattle.ods_alloc.specs.Zeroed.{IsZeroed}
use Rattle.ods_change.proofs.FirstKept.{says_grown}
use Rattle.ods_change.proofs.FirstWritten.{IsWritten, header_written, is_ready as first_ready, taken_inside, taken_written}

-- the file takes what it wants
pub is_taking : (I : List (List ℕ)) (L : VolumeLayout) (n : ℕ) (headers old : List ℕ) (count : ℕ) (t : Growing) → 5 < n → IsWanted I L n headers old count t → IsTaking I L n headers old count t.numbers.items
is_taking I L n headers old count t high w = record {
  above = omega arith;
  before = inl (w.file, w.has);
  all = ap (λ h. all_headers n h t.numbers.items) w.has.1 ∙ ap (λ h. h ++ t.numbers.items) (sym w.has.1) ∙ ap (λ l. headers ++ l) w.numbers;
  enough = w.enough;
  no_growth = w.no_growth;
}

-- a chain as it is walked along
pub walked_as : (I : List (List ℕ)) (L : VolumeLayout) (n : ℕ) (others old : List ℕ) → IsImage I → IsLayoutOf I L → IsChain I L n others old
    → (drop 1 (numbers_of (headers_of I L n)) ≡ others) × (named_by (headers_of I L n) ≡ old)
walked_as I L n others old image layout chain =
    let seen = chain_seen I L n others old image layout chain in
    (ap (drop 1) seen.numbers, ap named_by seen.headers ∙ sym seen.named)

-- What is written: the taken blocks become zeros, Z, and then c is written for the first header, which stands at x.
module _ (I Z K : List (List ℕ)) (L : VolumeLayout) (S : IsSoundBy I L) (n x : ℕ) (c : List ℕ) (place : place_of L n ≡ Some x)
    (changed : IsWithoutContiguous (header_at I L n) c) (fields : KeepsAllButContiguous (header_at I L n) c)
    (headers old : List ℕ) (count : ℕ) (t : Growing) (high : 5 < n) (w : IsWanted I L n headers old count t)
    (zeroed : IsZeroed I t.blocks.items Z) (set : K ≡ slice_set Z x c) where
  valid : IsValidHeader (header_at I L n) n
  valid = w.file.valid

  zeroed_taken : IsZeroed I (allocated_blocks I L count) Z
  zeroed_taken = subst (λ bs. IsZeroed I bs Z) w.blocks zeroed

  written : IsWritten I Z K L n x count c
  written = record { sound = S; place = place; long = zeroed_taken.long; elsewhere = zeroed_taken.elsewhere; is = set }

  pub taking : IsTaking I L n headers old count t.numbers.items
  taking = is_taking I L n headers old count t high w

  pub is_ready : IsReady I K L n headers count
  is_ready = first_ready written headers (subst (λ hs. IsFirstFor hs (header_at I L n) c n) (sym w.has.1) (kept_first (one_is_other (header_at I L n) c changed) n valid))

  abbrev numbers : List ℕ
  numbers = t.numbers.items

  -- What extend_from asks, where the file is said by its headers behind the first and by its blocks in other words.
  pub layout_asked : IsLayoutOf K L
  layout_asked = ready_layout I K L S n headers old count numbers taking is_ready

  pub chain_asked : IsImage I → (others all : List ℕ) → others ≡ drop 1 headers → all ≡ old → IsChain (with_in_use K L.home n) L n others all
  chain_asked image others all o a =
      subst (λ l. IsChain (with_in_use K L.home n) L n l all) (sym o) (subst (λ l. IsChain (with_in_use K L.home n) L n (drop 1 headers) l) (sym a)
      (ready_chain I K L S n headers old count numbers taking is_ready image))

  -- the chain as it is walked along before it grows
  pub walked_now : IsImage I → IsImage K → (drop 1 (numbers_of (headers_of K L n)) ≡ drop 1 headers) × (named_by (headers_of K L n) ≡ old)
  walked_now image now = walked_as K L n (drop 1 headers) old now layout_asked (kept_chain I K L S n headers old count numbers taking is_ready image w.file)

  pub headers_asked : (header_at K L n ≡ c) × ((m : ℕ) → m ≢ n → header_at K L m ≡ header_at I L m)
  headers_asked = (header_written written, header_stays I K L S n headers old count numbers taking is_ready)

  pub growth_asked : (others blocks ns : List ℕ) → others ≡ drop 1 headers → blocks ≡ t.blocks.items → ns ≡ numbers → CanExtend K L n others blocks ns
  growth_asked others blocks ns o b m =
      subst (λ l. CanExtend K L n l blocks ns) (sym o) (subst (λ l. CanExtend K L n (drop 1 headers) l ns) (sym (b ∙ w.blocks)) (subst (λ l. CanExtend K L n (drop 1 headers) (allocated_blocks I L count) l) (sym m)
      (can_extend I K L S n headers old count numbers taking is_ready)))

  module _ (J : List (List ℕ)) (e : Extends K L n (drop 1 headers) old (allocated_blocks I L count) numbers J) where
    -- the first header after it
    says : SaysTheSame (header_at K L n) (header_at J L n)
    says = says_the_same (header_at K L n) (header_at J L n) n (first_valid I K J L S n headers old count numbers taking is_ready e) (e.sizes 0 n (omega arith))
        (first_fields I K J L S n headers old count numbers taking is_ready e)

    zeros_now : (y : ℕ) → Contains (allocated_blocks I L count) y → block_at J y ≡ zeros
    zeros_now y own = filled I K J L S n headers old count numbers taking is_ready e y own ∙ taken_written written y own ∙ zeroed_taken.zero y own (taken_inside I L count y own)

    pub is_grown_by : IsGrownBy I L n headers old count numbers J
    is_grown_by = record {
      grown = grows I K J L S n headers old count numbers taking is_ready e;
      made = made I K J L S n headers old count numbers taking is_ready e;
      zeroed = λ k d below. zeros_now (get_or (allocated_blocks I L count) k d) (Contains-get_or (allocated_blocks I L count) k d below);
      first = says_grown (header_at I L n) c n valid changed fields (header_at J L n) (subst (λ d. SaysTheSame d (header_at J L n)) (header_written written) says);
    }

  -- the same, where the chain that grew is said in other words
  pub has_grown : (J : List (List ℕ)) (others all blocks ns : List ℕ) → others ≡ drop 1 headers → all ≡ old → blocks ≡ t.blocks.items → ns ≡ numbers → Extends K L n others all blocks ns J
      → IsGrownBy I L n headers old count numbers J
  has_grown J others all blocks ns o a b m e = is_grown_by J
      (subst (λ l. Extends K L n l old (allocated_blocks I L count) numbers J) o (subst (λ l. Extends K L n others l (allocated_blocks I L count) numbers J) a
      (subst (λ l. Extends K L n others all l numbers J) (b ∙ w.blocks) (subst (λ l. Extends K L n others all blocks l J) m e))))

-- one block is set in a draft
pub set_is : (I : List (List ℕ)) (d e : Changes) (x : ℕ) (c : List ℕ) → e ≡ (x, c) ∷ d → applied I e ≡ slice_set (applied I d) x c
set_is I d e x c is = ap (applied I) is ∙ applied_over I d x c
