-- The facts of a deleted file from the kept facts of its headers. Each header is looked up once.
use Rattle.std.specs.Prelude.{◌≡◌, ◌≢◌, ◌⊎◌, ◌==◌, ◌+◌, ◌<◌, ℕ, Bool, if◌then◌else◌, not, List, nat_eq, length, slice_get, Option, Some, None, MatchBool}
use Rattle.std.specs.List.{Contains, IsDistinct}
use Rattle.ods_header.specs.Header.{next_number_of, segment_of, blocks_of}
use Rattle.ods_space.specs.Layout.{VolumeLayout}
use Rattle.ods_remains.specs.Deleted.{IsDeleted, IsFormerChain, LeadsOn, counted, former, used_again}
use Rattle.ods_remains.specs.Shared.{IsSharer, IsWhole}
use Rattle.ods_remains.specs.declared.left.Left.{Left}
use Rattle.ods_remains.specs.declared.summary.Summary.{Summary}

-- the facts of the deleted header n: its next header, if any, the number of blocks that it names and that are used again, and one of its blocks
pub record IsLeft (I : List (List ℕ)) (L : VolumeLayout) (n : ℕ) (l : Left) : Type 0 where
  pub onward : ((l.next ≡ 0) × ((c : ℕ) → ¬ LeadsOn I L n c)) ⊎ (LeadsOn I L n l.next × (segment_of (former I L l.next) < 256))
  pub cut : l.names_next ≡ not (next_number_of (former I L n) == 0)
  pub blocks : l.blocks ≡ counted (length (blocks_of (former I L n)))
  pub used : l.used ≡ counted (used_again I L (blocks_of (former I L n)))
  pub first : l.blocks ≢ 0 → Contains (blocks_of (former I L n)) l.first

-- the facts of each deleted header are at the index that is its number
abbrev pub AreLeft : List (List ℕ) → VolumeLayout → List Left → Type 0
AreLeft I L all = (n : ℕ) → IsDeleted I L n → (l : Left) × (slice_get all n ≡ Some l) × IsLeft I L n l

-- the index of the first header that a deleted file with these headers lacks; the first header has index 1
abbrev pub missing_header : List ℕ → Bool → Option ℕ
missing_header numbers cut = if cut then Some (length numbers + 1) else None

-- A deleted file that also names one of these blocks: a file other than n, or n itself if there is none and n names one twice.
abbrev pub IsSharerOrSelf : List (List ℕ) → VolumeLayout → ℕ → List ℕ → Option ℕ → Type 0
IsSharerOrSelf I L n blocks None = IsSharer I L n blocks None × IsDistinct nat_eq blocks
IsSharerOrSelf I L n blocks (Some m) = IsSharer I L n blocks (Some m) ⊎ ((m ≡ n) × IsSharer I L n blocks None × ¬ IsDistinct nat_eq blocks)

-- the facts of the deleted file n, which has these headers and these blocks
pub record IsSummary (I : List (List ℕ)) (L : VolumeLayout) (n : ℕ) (numbers named : List ℕ) (ends : Bool) (s : Summary) : Type 0 where
  pub follows : IsFormerChain I L n numbers named ends
  pub missing : s.missing ≡ missing_header numbers ends
  pub blocks : s.blocks ≡ counted (length named)
  pub used : s.used ≡ counted (used_again I L named)
  pub shared : IsSharerOrSelf I L n named s.sharer
  pub complete : MatchBool s.is_whole (IsWhole I L n named ends) (¬ IsWhole I L n named ends)

-- the facts of the deleted file n
abbrev pub HasSummary : List (List ℕ) → VolumeLayout → ℕ → Summary → Type 0
HasSummary I L n s = (numbers : List ℕ) × (named : List ℕ) × (ends : Bool) × IsSummary I L n numbers named ends s
