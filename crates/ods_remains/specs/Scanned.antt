-- Scanned files: the headers that are still present, by LBN, and the blocks that a chain of them names.
use Rattle.std.specs.Prelude.{◌≡◌, ℕ, List, ◌∷◌, map}
use Rattle.std.specs.List.{Contains}
use Rattle.std.specs.List.Sorted.{IsStrictlyIncreasing}
use Rattle.ods_base.specs.Image.{block_at}
use Rattle.ods_remains.specs.Candidates.{HasFirst, GoesOn, IsNext}
use Rattle.ods_remains.specs.Chains.{GoesAlong, named_at}
use Rattle.ods_remains.specs.Keys.{key_at}
use Rattle.ods_remains.specs.declared.scanned.Scanned.{Scanned}

-- these are the LBNs that satisfy P, each once, sorted by number, sequence number, segment and LBN of their headers
pub record AreHeaders (I : List (List ℕ)) (P : ℕ → Type 0) (lbns : List ℕ) : Type 0 where
  pub only : (lbn : ℕ) → Contains lbns lbn → P lbn
  pub all : (lbn : ℕ) → P lbn → Contains lbns lbn
  pub order : IsStrictlyIncreasing (map (key_at I) lbns)

-- the file of the first header at this LBN: the LBNs of its headers, the blocks that they name, and whether the chain is cut
pub record IsScanned (I : List (List ℕ)) (first : ℕ) (file : Scanned) : Type 0 where
  pub primary : HasFirst I first
  pub others : List ℕ
  pub headers : file.headers.items ≡ first ∷ others
  pub chain : GoesAlong (block_at I) (GoesOn I) (IsNext I) first others file.is_cut
  pub blocks : file.blocks.items ≡ named_at (block_at I) file.headers.items
