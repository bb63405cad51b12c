-- Deleted files: headers whose index bits are free. A deletion left them unchanged except for the number and the checksum.
use Rattle.std.specs.Prelude.{◌≡◌, ℕ, ◌-◌, ◌^◌, ◌≤◌, ◌⊎◌, min, Bool, false, not, List, ◌∷◌, length}
use Rattle.std.specs.List.{Contains, filter}
use Rattle.std.specs.List.Sorted.{IsStrictlyIncreasing}
use Rattle.ods_base.specs.Block.{word, with_word, sum_of}
use Rattle.ods_header.specs.Header.{IsValidHeader, number_of, segment_of}
use Rattle.ods_header.specs.Writing.{with_sum}
use Rattle.ods_space.specs.Layout.{VolumeLayout, header_at, last_number, is_in_use}
use Rattle.ods_space.specs.Free.{is_free_block}
use Rattle.ods_remains.specs.Candidates.{Leads}
use Rattle.ods_remains.specs.Chains.{GoesAlong, named_at}
use Rattle.ods_remains.specs.declared.former.DeletedFile.{DeletedFile}

-- a header block as before its deletion: with its number and its checksum
abbrev pub restored : List ℕ → ℕ → List ℕ
restored b n = with_sum (with_word b 1 n)

-- the checksum of b is 0, or is correct, or was correct with the number n
abbrev pub HasOldSum : List ℕ → ℕ → Type 0
HasOldSum b n = (word b 255 ≡ 0) ⊎ (word b 255 ≡ sum_of b 255) ⊎ (word b 255 ≡ sum_of (with_word b 1 n) 255)

-- A deletion may leave b of header n: its number is n or 0, its checksum is an old one, and with both restored it is a valid header.
pub record IsLeftOf (b : List ℕ) (n : ℕ) : Type 0 where
  pub numbered : (number_of b ≡ 0) ⊎ (number_of b ≡ n)
  pub checksum : HasOldSum b n
  pub valid : IsValidHeader (restored b n) n

-- header n as before its deletion
abbrev pub former : List (List ℕ) → VolumeLayout → ℕ → List ℕ
former I L n = restored (header_at I L n) n

-- n is above the reserved files and at most the greatest number, its index bit is clear, and a deletion left its header
pub record IsDeleted (I : List (List ℕ)) (L : VolumeLayout) (n : ℕ) : Type 0 where
  pub low : 6 ≤ n
  pub high : n ≤ last_number L
  pub free : is_in_use I L.home n ≡ false
  pub left : IsLeftOf (header_at I L n) n

-- and it is the first header of a file
abbrev pub IsDeletedFile : List (List ℕ) → VolumeLayout → ℕ → Type 0
IsDeletedFile I L n = IsDeleted I L n × (segment_of (former I L n) ≡ 0)

-- the deleted header a names the deleted header c
abbrev pub LeadsOn : List (List ℕ) → VolumeLayout → ℕ → ℕ → Type 0
LeadsOn I L a c = Leads (IsDeleted I L) (former I L) a c

-- these are the numbers of all deleted files, ascending
pub record AreDeletedFiles (I : List (List ℕ)) (L : VolumeLayout) (numbers : List ℕ) : Type 0 where
  pub only : (n : ℕ) → Contains numbers n → IsDeletedFile I L n
  pub all : (n : ℕ) → IsDeletedFile I L n → Contains numbers n
  pub rising : IsStrictlyIncreasing numbers

-- the deleted file n: the numbers of its headers, the blocks that they name, and whether the chain is cut
pub record IsFormerChain (I : List (List ℕ)) (L : VolumeLayout) (n : ℕ) (numbers named : List ℕ) (cut : Bool) : Type 0 where
  pub deleted : IsDeletedFile I L n
  pub others : List ℕ
  pub headers : numbers ≡ n ∷ others
  pub chain : GoesAlong (former I L) (LeadsOn I L) (LeadsOn I L) n others cut
  pub blocks : named ≡ named_at (former I L) numbers

-- the same for the returned value
abbrev pub IsFormerFile : List (List ℕ) → VolumeLayout → ℕ → DeletedFile → Type 0
IsFormerFile I L n file = IsFormerChain I L n file.headers.items file.blocks.items file.is_cut

-- at most 2^32 - 1
abbrev pub counted : ℕ → ℕ
counted n = min n (2 ^ 32 - 1)

-- the number of these blocks that are used again: the image lacks them, or they are not free
abbrev pub used_again : List (List ℕ) → VolumeLayout → List ℕ → ℕ
used_again I L blocks = length (filter (λ lbn. not (is_free_block I L lbn)) blocks)
