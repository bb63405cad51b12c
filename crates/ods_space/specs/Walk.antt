-- Walks along a chain, header by header.
use Rattle.std.specs.Prelude.{◌≡◌, ℕ, ◌<◌, ◌≤◌, List, [], length, slice_get, Option, Some, None}
use Rattle.std.specs.List.{All, Contains}
use Rattle.ods_header.specs.declared.home.Home.{Home}
use Rattle.ods_header.specs.Header.{next_volume_of, next_number_of, next_sequence_of, sequence_of}
use Rattle.ods_space.specs.Layout.{header_by}
use Rattle.ods_space.specs.Chain.{IsSegment, Follows}
use Rattle.ods_space.specs.declared.survey.Survey.{Survey}
use Rattle.ods_space.specs.declared.fault.ChainFault.{ChainFault}
use Rattle.ods_space.specs.declared.fault.ChainFault.TheVariants.{BadChain, OutsideVolume, NoMemory}
use Rattle.ods_space.specs.declared.fault.LayoutFault.{LayoutFault}
use Rattle.ods_space.specs.declared.fault.LayoutFault.TheVariants.{Chain, NoMemory as NoLayout}

-- b names a next header on this volume, by number and sequence number, and that header is segment k of the chain
pub record IsLink (I : List (List ℕ)) (h : Home) (index : List ℕ) (most : ℕ) (b : List ℕ) (k : ℕ) : Type 0 where
  pub volume : next_volume_of b ≡ 0
  pub sequence : sequence_of (header_by I h index (next_number_of b)) ≡ next_sequence_of b
  pub segment : IsSegment I h index most (next_number_of b) k

-- there is a chain with these blocks from header n on
abbrev pub Leads : List (List ℕ) → Home → Option (List ℕ) → ℕ → List ℕ → Type 0
Leads I h index n blocks = (others : List ℕ) × Follows I h index [] 0 n others blocks

-- there is no chain from header n on, or memory is refused
abbrev pub IsDeadEnd : List (List ℕ) → Home → Option (List ℕ) → ℕ → ChainFault → Type 0
IsDeadEnd I h index n BadChain = (blocks : List ℕ) → ¬ Leads I h index n blocks
IsDeadEnd I h index n (OutsideVolume lbn) = ⊥
IsDeadEnd I h index n NoMemory = Unit {0}

-- One of these blocks is past the end of an image of len blocks, namely `lbn`; or none is.
abbrev pub IsPast : ℕ → List ℕ → Option ℕ → Type 0
IsPast len blocks (Some lbn) = Contains blocks lbn × (len ≤ lbn)
IsPast len blocks None = All (λ lbn. lbn < len) blocks

-- The facts that a walk collects about these blocks: their number, the block with the index `wanted`, counted from 0, and one that an image of len
-- blocks lacks.
pub record IsSurveyOf (len wanted : ℕ) (s : Survey) (blocks : List ℕ) : Type 0 where
  pub count : s.count ≡ length blocks
  pub found : s.found ≡ slice_get blocks wanted
  pub past : IsPast len blocks s.past

-- the fault of the layout for this fault of a file
abbrev pub layout_fault_of : ℕ → ChainFault → LayoutFault
layout_fault_of number BadChain = Chain number BadChain
layout_fault_of number (OutsideVolume lbn) = Chain number (OutsideVolume lbn)
layout_fault_of number NoMemory = NoLayout
