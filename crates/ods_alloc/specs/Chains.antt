-- When a chain of headers continues with new headers, and the law that it is then the longer chain.
use Rattle.std.specs.Prelude.{◌≡◌, ℕ, ◌+◌, ◌*◌, ◌<◌, ◌≤◌, IsTrue, List, ◌++◌, slice_index, length, take, drop}
use Rattle.std.specs.List.{flat_map}
use Rattle.ods_header.specs.declared.header.Run.{Run}
use Rattle.ods_header.specs.Header.{sequence_of, next_volume_of, next_number_of, next_sequence_of, runs_of, run_blocks}
use Rattle.ods_space.specs.Layout.{VolumeLayout, header_at, last_number, is_in_use}
use Rattle.ods_space.specs.Chain.{IsSegment, IsChain}
use Rattle.ods_alloc.specs.Extend.{last_of}
use Rattle.ods_alloc.specs.Extension.{first_number}

-- m is a header of a chain in I, as this segment of it
abbrev pub IsLink : List (List ℕ) → VolumeLayout → ℕ → ℕ → Type 0
IsLink I L m k = IsSegment I L.home L.index (last_number L) m k

-- header m of J has these pointers, and links to the first of the next headers by number and sequence number, on this volume
pub record LinksOn (J : List (List ℕ)) (L : VolumeLayout) (m k : ℕ) (runs : List Run) (behind : List ℕ) : Type 0 where
  pub link : IsLink J L m k
  pub pointers : runs_of (header_at J L m) ≡ runs
  pub next : next_number_of (header_at J L m) ≡ first_number behind
  pub volume : 0 < length behind → next_volume_of (header_at J L m) ≡ 0
  pub sequence : 0 < length behind → sequence_of (header_at J L (first_number behind)) ≡ next_sequence_of (header_at J L m)

-- J is I in which the chain of n continues. The headers before the last are unchanged, the last has as many of the runs as it has room for after its
-- own pointers, and each new header takes the next 102
pub record GoesOn (I : List (List ℕ)) (L : VolumeLayout) (n : ℕ) (others numbers : List ℕ) (runs : List Run) (room : ℕ) (J : List (List ℕ)) : Type 0 where
  pub same : (m k : ℕ) → IsLink I L m k → k < length others → header_at J L m ≡ header_at I L m
  pub used : (m k : ℕ) → IsLink I L m k → IsTrue (is_in_use J L.home m)
  pub sequence : (m k : ℕ) → IsLink I L m k → sequence_of (header_at J L m) ≡ sequence_of (header_at I L m)
  pub last : LinksOn J L (last_of n others) (length others) (runs_of (header_at I L (last_of n others)) ++ take room runs) numbers
  pub new : (i : ℕ) → i < length numbers → LinksOn J L (slice_index numbers i) (length others + 1 + i) (take 102 (drop (102 * i) (drop room runs))) (drop (i + 1) numbers)
  pub enough : length runs ≤ room + 102 * length numbers

-- the chain is then the longer one
abbrev pub ChainGrows : Type 0
ChainGrows = (I J : List (List ℕ)) (L : VolumeLayout) (n : ℕ) (others all numbers : List ℕ) (runs : List Run) (room : ℕ) → 2 ≤ n → IsChain I L n others all → GoesOn I L n others numbers runs room J →
    IsChain J L n (others ++ numbers) (all ++ flat_map run_blocks runs)
