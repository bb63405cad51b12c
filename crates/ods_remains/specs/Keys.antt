-- Keys of candidates: one number holds the number, sequence number and segment of a header, with the LBN in the low bits.
use Rattle.std.specs.Prelude.{◌≡◌, ◌≢◌, ℕ, ◌+◌, ◌-◌, ◌*◌, ◌/◌, ◌%◌, ◌<◌, ◌==◌, Bool, List, nat_eq, slice_get, Option, Some, None}
use Rattle.std.specs.List.{Contains, IsDistinct}
use Rattle.std.specs.List.Sorted.{IsNonDecreasing, IsStrictlyIncreasing}
use Rattle.ods_base.specs.Image.{block_at}
use Rattle.ods_header.specs.Header.{number_of, sequence_of, segment_of}
use Rattle.ods_remains.specs.Candidates.{HasCandidate, IsNearer, IsCloser}

-- the number, sequence number and segment of a header as one number
abbrev pub place_in_chain : ℕ → ℕ → ℕ → ℕ
place_in_chain number sequence segment = 16777216 * number + 256 * sequence + segment

-- the place in a chain that a block states
abbrev pub place_of : List ℕ → ℕ
place_of b = place_in_chain (number_of b) (sequence_of b) (segment_of b)

-- the key of a header with this place in a chain at this LBN
abbrev pub key_of : ℕ → ℕ → ℕ
key_of place lbn = 1048576 * place + lbn

-- the key of the block at this LBN
abbrev pub key_at : List (List ℕ) → ℕ → ℕ
key_at I lbn = key_of (place_of (block_at I lbn)) lbn

-- the LBN in a key
abbrev pub lbn_in : ℕ → ℕ
lbn_in key = key % 1048576

-- whether the header of a key is the first of a chain
abbrev pub is_first_key : ℕ → Bool
is_first_key key = key / 1048576 % 256 == 0

-- these are the keys of the candidates below LBN n, none twice
pub record AreKeysBelow (I : List (List ℕ)) (n : ℕ) (keys : List ℕ) : Type 0 where
  pub only : (key : ℕ) → Contains keys key → (lbn : ℕ) × (lbn < n) × HasCandidate I lbn × (key ≡ key_at I lbn)
  pub all : (lbn : ℕ) → lbn < n → HasCandidate I lbn → Contains keys (key_at I lbn)
  pub once : IsDistinct nat_eq keys

-- these are the keys of all candidates of an image, ascending
pub record IsIndexOf (I : List (List ℕ)) (keys : List ℕ) : Type 0 where
  pub ascending : IsNonDecreasing keys
  pub rising : IsStrictlyIncreasing keys
  pub only : (key : ℕ) → Contains keys key → (lbn : ℕ) × HasCandidate I lbn × (key ≡ key_at I lbn)
  pub all : (lbn : ℕ) → HasCandidate I lbn → Contains keys (key_at I lbn)

-- the LBN of the key with this index, if the key has this place in a chain
abbrev pub IsLbnAt : List ℕ → ℕ → ℕ → Option ℕ → Type 0
IsLbnAt keys at place None = (c : ℕ) → c < 1048576 → slice_get keys at ≢ Some (key_of place c)
IsLbnAt keys at place (Some c) = (c < 1048576) × (slice_get keys at ≡ Some (key_of place c))

-- the LBN of the key before this index, if there is one and it has this place in a chain
abbrev pub IsLbnBefore : List ℕ → ℕ → ℕ → Option ℕ → Type 0
IsLbnBefore keys at place None = 0 < at → IsLbnAt keys (at - 1) place None
IsLbnBefore keys at place (Some c) = (0 < at) × IsLbnAt keys (at - 1) place (Some c)

-- the LBN, of at most two, that is nearer to `lbn`; the first if both are equally near
abbrev pub IsCloserOf : ℕ → Option ℕ → Option ℕ → Option ℕ → Type 0
IsCloserOf lbn None second which = which ≡ second
IsCloserOf lbn (Some a) None which = which ≡ Some a
IsCloserOf lbn (Some a) (Some c) which = IsCloser lbn which a c

-- Of the LBNs whose key with this place is present, c is the nearest to a, and the lower one if two are equally near.
pub record IsNearestKey (keys : List ℕ) (place a c : ℕ) : Type 0 where
  pub low : c < 1048576
  pub there : Contains keys (key_of place c)
  pub nearest : (d : ℕ) → d < 1048576 → Contains keys (key_of place d) → IsNearer a c d

-- the nearest such LBN, if there is any
abbrev pub IsNearestOf : List ℕ → ℕ → ℕ → Option ℕ → Type 0
IsNearestOf keys place a None = (c : ℕ) → c < 1048576 → ¬ Contains keys (key_of place c)
IsNearestOf keys place a (Some c) = IsNearestKey keys place a c
