-- The order in which a check reports its lines: a turn for each line.
use Rattle.std.specs.Prelude.{ℕ, ◌+◌, ◌*◌}
use Rattle.ods_mount.specs.declared.fault.MountFault.TheVariants.{BadStorageMap, BadMaster, UnsupportedMap, BadChain, OutsideVolume, MarkedFree, BadDirectory, DuplicateName}
use Rattle.ods_check.specs.declared.fault_line.IndexFault.TheVariants.{TooShort, Misplaced, OtherHome, FreePlace, HeldPlace}
use Rattle.ods_check.specs.declared.fault_line.FaultLine.{FaultLine}
use Rattle.ods_check.specs.declared.fault_line.FaultLine.TheVariants.{Plain, Shared, Index}

-- the first turn of the volume as a whole
abbrev pub volume_turn : ℕ
volume_turn = 10000000000

-- the first turn of file n, which has six
abbrev pub file_turn : ℕ → ℕ
file_turn n = 20000000000 + 6 * n

-- the turn of files m and n, of which m comes first
abbrev pub pair_turn : ℕ → ℕ → ℕ
pair_turn m n = 30000000000 + 65536 * n + m

-- the turn after all others
abbrev pub last_turn : ℕ
last_turn = 40000000000

-- The index is first, then the volume as a whole, then each single file, then the pairs of files. Two lines have the same turn only for blocks of
-- one file that are marked free or are locations of a home block. The last case covers lines that a check does not report.
abbrev pub turn_of : FaultLine → ℕ
turn_of (Index TooShort) = 0
turn_of (Index (Misplaced v)) = 1
turn_of (Index (OtherHome lbn)) = 2
turn_of (Index (FreePlace k)) = 3 + k
turn_of (Plain BadStorageMap) = volume_turn
turn_of (Plain BadMaster) = volume_turn + 1
turn_of (Plain (UnsupportedMap n)) = volume_turn + 2 + n
turn_of (Plain (BadChain n)) = file_turn n
turn_of (Plain (OutsideVolume n lbn)) = file_turn n + 1
turn_of (Plain (MarkedFree n b)) = file_turn n + 2
turn_of (Index (HeldPlace k n)) = file_turn n + 3
turn_of (Plain (BadDirectory n)) = file_turn n + 4
turn_of (Plain (DuplicateName n)) = file_turn n + 5
turn_of (Shared m n lbn count) = pair_turn m n
turn_of (Plain fault) = last_turn
