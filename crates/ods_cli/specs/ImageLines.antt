-- The lines about an image: its free blocks and file numbers, or a fault of it.
use Rattle.std.specs.Prelude.{ℕ, List, [], ◌∷◌, ◌++◌, codes}
use Rattle.std.specs.Fmt.{decimal}
use Rattle.ods_mount.specs.declared.fault.MountFault.{MountFault}
use Rattle.ods_mount.specs.declared.fault.MountFault.TheVariants as mount
use Rattle.ods_mount.specs.Refusals.{mount_row}
use Rattle.ods_cli.specs.Reply.{refusal_line}

-- the two lines about a sound image: the number of free blocks, and of free file numbers
abbrev pub count_lines : ℕ → ℕ → List ℕ
count_lines blocks numbers = codes "free " ++ decimal blocks ++ 10 ∷ codes "numbers " ++ decimal numbers ++ 10 ∷ []

-- the parameters of a fault, in decimal, each after a space: numbers of files, and then the LBN of a block
abbrev pub carried_text : MountFault → List ℕ
carried_text mount.NoHome = []
carried_text (mount.UnsupportedMap file) = 32 ∷ decimal file
carried_text (mount.BadChain file) = 32 ∷ decimal file
carried_text (mount.OutsideVolume file block) = 32 ∷ decimal file ++ 32 ∷ decimal block
carried_text mount.BadIndex = []
carried_text mount.BadStorageMap = []
carried_text mount.BadMaster = []
carried_text (mount.DoublyUsed one other block) = 32 ∷ decimal one ++ 32 ∷ decimal other ++ 32 ∷ decimal block
carried_text (mount.MarkedFree file block) = 32 ∷ decimal file ++ 32 ∷ decimal block
carried_text (mount.BadDirectory file) = 32 ∷ decimal file
carried_text (mount.DuplicateName file) = 32 ∷ decimal file
carried_text mount.NoMemory = []

-- the line of a fault
abbrev pub fault_line : MountFault → List ℕ
fault_line fault = refusal_line (mount_row fault).0 ((mount_row fault).1 ++ carried_text fault)
