-- A file that receives blocks, and headers for their pointers: the blocks I of its volume become J. This serves Create, Extend, and an Enter that
-- allocates a block. K is I with the blocks that are written before the chain grows: the first header of the file, and the allocated blocks.
use Rattle.std.specs.Prelude.{◌≡◌, ◌≢◌, ◌⊎◌, ℕ, ◌+◌, ◌≤◌, List, [], ◌∷◌, ◌++◌, length, drop, None, Some}
use Rattle.std.specs.List.{Contains}
use Rattle.ods_base.specs.Image.{block_at}
use Rattle.ods_header.specs.Extension.{IsMadeHeader}
use Rattle.ods_header.specs.Header.{IsValidHeader, next_number_of, next_sequence_of, room_of, runs_of, segment_of, sequence_of}
use Rattle.ods_header.specs.Pointing.{KeepsForm, KeepsRest}
use Rattle.ods_space.specs.Layout.{VolumeLayout, header_at, place_of}
use Rattle.ods_space.specs.Chain.{IsChain}
use Rattle.ods_space.specs.Files.{IsFile}
use Rattle.ods_alloc.specs.Extend.{IsBookkeeping, AllocatesBits, chain_runs, cut}
use Rattle.ods_state.specs.Links.{SameLinks}
use Rattle.ods_state.specs.Wants.{HasHeaders, index_growth, lack_of, allocated_blocks, allocated_numbers}

-- file n had these headers and blocks; or it is new and had none
abbrev pub HadHeaders : List (List ℕ) → VolumeLayout → ℕ → List ℕ → List ℕ → Type 0
HadHeaders I L n headers old = (IsFile I L n × HasHeaders I L n headers old) ⊎ ((headers ≡ []) × (old ≡ []))

-- the headers of file n after growth, if `numbers` are its new headers after the first; the first header of a new file is new too
abbrev pub all_headers : ℕ → List ℕ → List ℕ → List ℕ
all_headers n headers numbers = n ∷ drop 1 headers ++ numbers

-- The volume has what a file with these headers and blocks needs to receive `count` blocks.
pub record IsTaking (I : List (List ℕ)) (L : VolumeLayout) (n : ℕ) (headers old : List ℕ) (count : ℕ) (numbers : List ℕ) : Type 0 where
  pub above : 3 ≤ n
  pub before : HadHeaders I L n headers old
  pub all : all_headers n headers numbers ≡ headers ++ allocated_numbers I L headers count
  pub enough : lack_of I L headers count ≡ None
  -- INDEXF.SYS has a block for each allocated number
  pub no_growth : index_growth L (allocated_numbers I L headers count) ≡ 0

-- c replaces the first header b of an existing file: it has the same links, form and pointers
pub record IsKeptFirst (b c : List ℕ) (n : ℕ) : Type 0 where
  pub links : SameLinks b c n
  pub back : SameLinks c b n
  pub form : KeepsForm b c
  pub rest : KeepsRest b c
  pub pointers : runs_of c ≡ runs_of b
  pub room : room_of c ≡ room_of b

-- c is the first header of a new file, with no pointer and no next header; it replaces b
pub record IsNewFirst (b c : List ℕ) (n : ℕ) : Type 0 where
  pub valid : IsValidHeader c n
  pub segment : segment_of c ≡ 0
  pub alone : next_number_of c ≡ 0
  pub clean : next_sequence_of c ≡ 0
  pub pointers : runs_of c ≡ []
  pub room : room_of c ≡ 204
  pub form : IsMadeHeader c
  pub sequence : sequence_of c ≡ sequence_of b + 1

-- c replaces b as the first header of a file that had these headers
abbrev pub IsFirstFor : List ℕ → List ℕ → List ℕ → ℕ → Type 0
IsFirstFor [] b c n = IsNewFirst b c n
IsFirstFor (h ∷ hs) b c n = IsKeptFirst b c n

-- K is I with the first header and the allocated blocks written
pub record IsReady (I K : List (List ℕ)) (L : VolumeLayout) (n : ℕ) (headers : List ℕ) (count : ℕ) : Type 0 where
  pub long : length K ≡ length I
  pub first : IsFirstFor headers (header_at I L n) (header_at K L n) n
  pub elsewhere : (x : ℕ) → place_of L n ≢ Some x → ¬ Contains (allocated_blocks I L count) x → block_at K x ≡ block_at I x

-- J is I with the file grown
pub record IsGrowth (I J : List (List ℕ)) (L : VolumeLayout) (n : ℕ) (headers old : List ℕ) (count : ℕ) (numbers : List ℕ) : Type 0 where
  pub taking : IsTaking I L n headers old count numbers
  pub long : length J ≡ length I
  pub chain : IsChain J L n (drop 1 headers ++ numbers) (old ++ allocated_blocks I L count)
  pub pointers : chain_runs J L (all_headers n headers numbers) ≡ chain_runs I L headers ++ cut (allocated_blocks I L count)
  -- every other header is unchanged; an old header keeps its sequence number, and a new one has one more than before
  pub stays : (m : ℕ) → ¬ Contains (all_headers n headers numbers) m → header_at J L m ≡ header_at I L m
  pub kept : (m : ℕ) → Contains headers m → sequence_of (header_at J L m) ≡ sequence_of (header_at I L m)
  pub raised : (m : ℕ) → Contains (allocated_numbers I L headers count) m → sequence_of (header_at J L m) ≡ sequence_of (header_at I L m) + 1
  pub bits : AllocatesBits I L (allocated_blocks I L count) (all_headers n headers numbers) J
  pub elsewhere : (x : ℕ) → ¬ IsBookkeeping L (all_headers n headers numbers) x → ¬ Contains (allocated_blocks I L count) x → block_at J x ≡ block_at I x
