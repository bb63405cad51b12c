-- The blocks of INDEXF.SYS, as far as the first headers of its own chain map them.
use Rattle.std.specs.Prelude.{◌≡◌, ℕ, zero, suc, List, [], ◌++◌, Some}
use Rattle.ods_header.specs.declared.home.Home.{Home}
use Rattle.ods_header.specs.Header.{next_number_of, blocks_of}
use Rattle.ods_space.specs.Layout.{header_by, place_by}
use Rattle.ods_space.specs.Chain.{IsIndex}

-- the blocks that the headers so far map, and the number of the next header
pub record Begun : Type 0 where
  pub blocks : List ℕ
  pub next : ℕ

-- one header more, which the blocks so far locate
abbrev pub one_more : List (List ℕ) → Home → Begun → Begun
one_more I h w = record { blocks = w.blocks ++ blocks_of (header_by I h w.blocks w.next); next = next_number_of (header_by I h w.blocks w.next) }

-- after the first k headers of INDEXF.SYS
abbrev pub begun : List (List ℕ) → Home → ℕ → Begun
begun I h zero = record { blocks = []; next = 1 }
begun I h (suc k) = one_more I h (begun I h k)

-- the blocks that the first k headers map
abbrev pub index_after : List (List ℕ) → Home → ℕ → List ℕ
index_after I h k = (begun I h k).blocks

-- The blocks that k headers map are the first blocks that k + 1 headers map, so a located header keeps its LBN. Some number of headers maps all
-- blocks of INDEXF.SYS.
pub record PlacesStay : Type 0 where
  pub begins : (I : List (List ℕ)) (h : Home) (k : ℕ) → (more : List ℕ) × (index_after I h (suc k) ≡ index_after I h k ++ more)
  pub stays : (I : List (List ℕ)) (h : Home) (k n lbn : ℕ) → place_by h (index_after I h k) n ≡ Some lbn → place_by h (index_after I h (suc k)) n ≡ Some lbn
  pub whole : (I : List (List ℕ)) (h : Home) (index : List ℕ) → IsIndex I h index → (k : ℕ) × (index ≡ index_after I h k)
