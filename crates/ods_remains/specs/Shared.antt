-- Blocks that several deleted files name. For each LBN, two tables hold the lowest and the highest file that names it.
use Rattle.std.specs.Prelude.{◌≡◌, ◌≢◌, ◌⊎◌, ℕ, ◌<◌, ◌≤◌, Bool, false, true, List, [], ◌∷◌, ◌++◌, nat_eq, length, slice_index, slice_index_or, Option, Some, None}
use Rattle.std.specs.List.{All, Contains, IsDistinct}
use Rattle.ods_header.specs.Header.{blocks_of}
use Rattle.ods_space.specs.Free.{is_free_block}
use Rattle.ods_space.specs.Layout.{VolumeLayout}
use Rattle.ods_remains.specs.Chains.{GoesAlong, named_at}
use Rattle.ods_remains.specs.Deleted.{IsDeleted, IsDeletedFile, LeadsOn, former}

-- these are the blocks that the headers of the deleted file n name
pub record HasFormerBlocks (I : List (List ℕ)) (L : VolumeLayout) (n : ℕ) (blocks : List ℕ) : Type 0 where
  pub others : List ℕ
  pub cut : Bool
  pub chain : GoesAlong (former I L) (LeadsOn I L) (LeadsOn I L) n others cut
  pub named : blocks ≡ named_at (former I L) (n ∷ others)

-- the deleted file n names this LBN
abbrev pub NamesBlock : List (List ℕ) → VolumeLayout → ℕ → ℕ → Type 0
NamesBlock I L n lbn = IsDeletedFile I L n × (blocks : List ℕ) × HasFormerBlocks I L n blocks × Contains blocks lbn

-- Of the deleted files among these that name this LBN, m is first in the order. It is 0 if no file does.
abbrev pub IsFirstNaming : List (List ℕ) → VolumeLayout → (ℕ → Type 0) → (ℕ → ℕ → Type 0) → ℕ → ℕ → Type 0
IsFirstNaming I L Among IsBefore lbn m =
    ((m ≡ 0) × ((n : ℕ) → Among n → ¬ NamesBlock I L n lbn))
    ⊎ (NamesBlock I L m lbn × Among m × ((n : ℕ) → Among n → NamesBlock I L n lbn → IsBefore m n))

-- the deleted file n has this header
abbrev pub ComesBy : List (List ℕ) → VolumeLayout → ℕ → ℕ → Type 0
ComesBy I L n h = IsDeletedFile I L n × (others : List ℕ) × (cut : Bool) × GoesAlong (former I L) (LeadsOn I L) (LeadsOn I L) n others cut × Contains (n ∷ others) h

-- whether this header was seen
abbrev pub is_seen : List Bool → ℕ → Bool
is_seen seen h = slice_index_or seen h false

-- each seen header belongs to a deleted file among these
abbrev pub AreSeen : List (List ℕ) → VolumeLayout → (ℕ → Type 0) → List Bool → Type 0
AreSeen I L Among seen = (h : ℕ) → is_seen seen h ≡ true → (n : ℕ) × Among n × ComesBy I L n h

-- the chain ends, or continues with a seen header
abbrev pub GoesOnSeen : List Bool → List ℕ → Type 0
GoesOnSeen seen [] = Unit {0}
GoesOnSeen seen (h ∷ rest) = is_seen seen h ≡ true

-- The front of the deleted file n: its headers up to the first seen one, and the blocks that they name. The chain continues with the headers after
-- the front.
pub record IsFront (I : List (List ℕ)) (L : VolumeLayout) (seen : List Bool) (n : ℕ) (headers blocks : List ℕ) : Type 0 where
  pub passed : List ℕ
  pub behind : List ℕ
  pub cut : Bool
  pub chain : GoesAlong (former I L) (LeadsOn I L) (LeadsOn I L) n (passed ++ behind) cut
  pub whole : headers ≡ n ∷ passed
  pub named : blocks ≡ named_at (former I L) headers
  pub ends : GoesOnSeen seen behind

-- these headers are seen in the new flags, and no other header except the headers that were seen before
pub record AreMarked (headers : List ℕ) (old new : List Bool) : Type 0 where
  pub size : length new ≡ length old
  pub only : (h : ℕ) → is_seen new h ≡ true → (is_seen old h ≡ true) ⊎ Contains headers h
  pub kept : (h : ℕ) → is_seen old h ≡ true → is_seen new h ≡ true
  pub there : (h : ℕ) → Contains headers h → h < length old → is_seen new h ≡ true

-- at each of these indices that held 0, the new list holds n
abbrev pub IsFilled : ℕ → List ℕ → List ℕ → List ℕ → Type 0
IsFilled n places old new = (lbn : ℕ) → lbn < length old →
    (Contains places lbn × (slice_index old lbn ≡ 0) × (slice_index new lbn ≡ n)) ⊎ (((¬ Contains places lbn) ⊎ (slice_index old lbn ≢ 0)) × (slice_index new lbn ≡ slice_index old lbn))

-- n is a deleted file. It is stored where its front names a block that no earlier file names, and the headers of its front are seen.
pub record IsNoted (I : List (List ℕ)) (L : VolumeLayout) (n : ℕ) (old : List ℕ) (was : List Bool) (new : List ℕ) (seen : List Bool) : Type 0 where
  pub headers : List ℕ
  pub blocks : List ℕ
  pub deleted : IsDeletedFile I L n
  pub front : IsFront I L was n headers blocks
  pub filled : IsFilled n blocks old new
  pub size : length new ≡ length old
  pub marked : AreMarked headers was seen

-- each block that a deleted header names is less than `size`
abbrev pub AreWithin : List (List ℕ) → VolumeLayout → ℕ → Type 0
AreWithin I L size = (n lbn : ℕ) → IsDeleted I L n → Contains (blocks_of (former I L n)) lbn → lbn < size

-- a table of the files among these that are first in the order, for each block that a deleted header names, with the seen headers
pub record IsTable (I : List (List ℕ)) (L : VolumeLayout) (Among : ℕ → Type 0) (IsBefore : ℕ → ℕ → Type 0) (table : List ℕ) (seen : List Bool) : Type 0 where
  pub first : (lbn : ℕ) → lbn < length table → IsFirstNaming I L Among IsBefore lbn (slice_index table lbn)
  pub met : AreSeen I L Among seen

-- at each index of the table is the deleted file that is first in the order among all files that name this LBN
abbrev pub AreFirst : List (List ℕ) → VolumeLayout → (ℕ → ℕ → Type 0) → List ℕ → Type 0
AreFirst I L IsBefore table = (lbn : ℕ) → lbn < length table → IsFirstNaming I L (λ n. Unit {0}) IsBefore lbn (slice_index table lbn)

-- The two tables of an image. For each LBN that a deleted header names, they hold the lowest and the highest deleted file that names it.
pub record AreTables (I : List (List ℕ)) (L : VolumeLayout) (lowest highest : List ℕ) : Type 0 where
  pub low_size : AreWithin I L (length lowest)
  pub high_size : AreWithin I L (length highest)
  pub low : AreFirst I L (λ m n. m ≤ n) lowest
  pub high : AreFirst I L (λ m n. n ≤ m) highest

-- a number of the two that is neither 0 nor n, if there is one
abbrev pub IsOtherOf : ℕ → ℕ → ℕ → Option ℕ → Type 0
IsOtherOf low high n (Some m) = (m ≢ 0) × (m ≢ n) × ((m ≡ low) ⊎ (m ≡ high))
IsOtherOf low high n None = ((low ≡ 0) ⊎ (low ≡ n)) × ((high ≡ 0) ⊎ (high ≡ n))

-- Another deleted file than n names this LBN, namely the given one; or no other file does.
abbrev pub IsSharerAt : List (List ℕ) → VolumeLayout → ℕ → ℕ → Option ℕ → Type 0
IsSharerAt I L n lbn (Some m) = (m ≢ n) × NamesBlock I L m lbn
IsSharerAt I L n lbn None = (m : ℕ) → NamesBlock I L m lbn → m ≡ n

-- Another deleted file than n names one of these blocks, namely the given one; or no other file does. Blocks that the image lacks count as well.
abbrev pub IsSharer : List (List ℕ) → VolumeLayout → ℕ → List ℕ → Option ℕ → Type 0
IsSharer I L n blocks (Some m) = (m ≢ n) × (lbn : ℕ) × Contains blocks lbn × NamesBlock I L m lbn
IsSharer I L n blocks None = (m lbn : ℕ) → Contains blocks lbn → NamesBlock I L m lbn → m ≡ n

-- The deleted file n, which has these blocks, is whole. Its chain is not cut. Each of its blocks is in the image, is free, and is named once, only
-- by this file.
pub record IsWhole (I : List (List ℕ)) (L : VolumeLayout) (n : ℕ) (blocks : List ℕ) (cut : Bool) : Type 0 where
  pub complete : cut ≡ false
  pub free : All (λ lbn. is_free_block I L lbn ≡ true) blocks
  pub once : IsDistinct nat_eq blocks
  pub alone : (m lbn : ℕ) → Contains blocks lbn → NamesBlock I L m lbn → m ≡ n
