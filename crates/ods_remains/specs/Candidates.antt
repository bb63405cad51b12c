-- Candidates: the blocks of an image that are valid headers, whether an index file knows them or not, and the next header of each.
use Rattle.std.specs.Prelude.{◌≡◌, ◌≢◌, ◌⊎◌, ℕ, ◌+◌, ◌<◌, ◌≤◌, List, Option, Some, None}
use Rattle.std.specs.Int.{abs_diff}
use Rattle.ods_base.specs.Image.{block_at}
use Rattle.ods_header.specs.Header.{IsValidHeader, number_of, sequence_of, segment_of, next_volume_of, next_number_of, next_sequence_of}

-- b is a valid header of the number in it, which is not 0
pub record IsCandidate (b : List ℕ) : Type 0 where
  pub numbered : number_of b ≢ 0
  pub valid : IsValidHeader b (number_of b)

-- a candidate is at this LBN; a block that the image lacks has the number 0, and is not a candidate
abbrev pub HasCandidate : List (List ℕ) → ℕ → Type 0
HasCandidate I lbn = IsCandidate (block_at I lbn)

-- and it is the first of a chain
abbrev pub HasFirst : List (List ℕ) → ℕ → Type 0
HasFirst I lbn = HasCandidate I lbn × (segment_of (block_at I lbn) ≡ 0)

-- c is the header that b names as its next one, on this volume, by number and sequence number; its segment is one higher
pub record IsNamedBy (b c : List ℕ) : Type 0 where
  pub volume : next_volume_of b ≡ 0
  pub number : number_of c ≡ next_number_of b
  pub sequence : sequence_of c ≡ next_sequence_of b
  pub segment : segment_of c ≡ segment_of b + 1

-- Both headers are present, each at its index and with its block. The header at a names the header at c.
pub record Leads (IsThere : ℕ → Type 0) (block : ℕ → List ℕ) (a c : ℕ) : Type 0 where
  pub here : IsThere a
  pub there : IsThere c
  pub named : IsNamedBy (block a) (block c)

-- the candidate at LBN a names the one at LBN c
abbrev pub GoesOn : List (List ℕ) → ℕ → ℕ → Type 0
GoesOn I a c = Leads (HasCandidate I) (block_at I) a c

-- c is nearer to a than d, or as near and no higher
abbrev pub IsNearer : ℕ → ℕ → ℕ → Type 0
IsNearer a c d = (abs_diff a c < abs_diff a d) ⊎ ((abs_diff a c ≡ abs_diff a d) × (c ≤ d))

-- the LBN a or c that is nearer to `lbn`; a if both are equally near
abbrev pub IsCloser : ℕ → Option ℕ → ℕ → ℕ → Type 0
IsCloser lbn which a c = ((which ≡ Some a) × (abs_diff lbn a ≤ abs_diff lbn c)) ⊎ ((which ≡ Some c) × (abs_diff lbn c < abs_diff lbn a))

-- The next header of the header at LBN a is at LBN c: the nearest one that it names, and the lower one if two are equally near.
pub record IsNext (I : List (List ℕ)) (a c : ℕ) : Type 0 where
  pub named : GoesOn I a c
  pub nearest : (d : ℕ) → GoesOn I a d → IsNearer a c d

-- the LBN of the next header of the header at LBN a, if it has one
abbrev pub IsNextOf : List (List ℕ) → ℕ → Option ℕ → Type 0
IsNextOf I a None = (c : ℕ) → ¬ GoesOn I a c
IsNextOf I a (Some c) = IsNext I a c
