-- A chain that is cut. It ends at the header of the last block that the file keeps.
use Rattle.std.specs.Prelude.{◌≡◌, ℕ, ◌-◌, ◌<◌, ◌≤◌, ◌⊎◌, List, [], ◌∷◌, ◌++◌, length, drop}
use Rattle.std.specs.List.{All, flat_map}
use Rattle.ods_header.specs.Cutting.{IsCutTo, first_runs}
use Rattle.ods_header.specs.Header.{IsValidHeader, blocks_of, runs_of}
use Rattle.ods_header.specs.Pointing.{KeepsFields}
use Rattle.ods_header.specs.Writing.{deleted}
use Rattle.ods_space.specs.Layout.{VolumeLayout, header_at}
use Rattle.ods_alloc.specs.Extend.{ChangesOnly, GivesBits}

-- the blocks that these headers map, one header after another
abbrev pub mapped_by : List (List ℕ) → VolumeLayout → List ℕ → List ℕ
mapped_by I L numbers = flat_map (λ m. blocks_of (header_at I L m)) numbers

-- J is I after the file is cut whose chain is n and these headers, with these blocks. The file keeps its first `count` blocks, and the headers up to
-- the header of the last of them. That header is cut, the headers after it are deleted, and the bits of their blocks and numbers are given back.
pub record CutsOff (I : List (List ℕ)) (L : VolumeLayout) (n : ℕ) (others blocks : List ℕ) (count : ℕ) (J : List (List ℕ)) : Type 0 where
  pub front : List ℕ
  pub last : ℕ
  pub gone : List ℕ
  pub parts : n ∷ others ≡ front ++ last ∷ gone
  -- the headers before the last one map fewer than `count` blocks, and with it they map at least `count`
  pub fewer : (front ≡ []) ⊎ (length (mapped_by I L front) < count)
  pub passed : length (mapped_by I L front) ≤ count
  pub has : count ≤ length (mapped_by I L (front ++ last ∷ []))
  -- the last one is cut
  pub cut : IsCutTo (header_at I L last) (first_runs (count - length (mapped_by I L front)) (runs_of (header_at I L last))) (header_at J L last)
  pub fields : KeepsFields (header_at I L last) (header_at J L last)
  pub valid : (m : ℕ) → IsValidHeader (header_at I L last) m → IsValidHeader (header_at J L last) m
  -- the headers after it are given back
  pub headers : All (λ m. header_at J L m ≡ deleted (header_at I L m)) gone
  pub bits : GivesBits I L (drop count blocks) gone J
  pub only : ChangesOnly I L (last ∷ gone) J
