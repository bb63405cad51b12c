-- The number and the name of each refusal for lack of room, as they are printed.
use Rattle.std.specs.Prelude.{ℕ, List, codes}
use Rattle.ods_alloc.specs.declared.fault.SpaceFault.{SpaceFault}
use Rattle.ods_alloc.specs.declared.fault.SpaceFault.TheVariants as space

-- for a lack of room
abbrev pub space_row : SpaceFault → ℕ × List ℕ
space_row space.VolumeFull = (22, codes "VolumeFull")
space_row space.HeadersFull = (23, codes "HeadersFull")
space_row space.ChainFull = (24, codes "ChainFull")
space_row space.NoMemory = (49, codes "NoMemory")
