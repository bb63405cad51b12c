-- The problems that do not prevent a mount, on a volume that has a layout, sound or not: the meaning of each finding, and the complete list of each
-- kind.
use Rattle.std.specs.Prelude.{◌≡◌, ◌≢◌, ℕ, ◌+◌, ◌-◌, ◌*◌, ◌/◌, ◌%◌, ◌^◌, ◌<◌, ◌≤◌, ◌==◌, IsTrue, Bool, true, false, List, [], ◌∷◌, ◌++◌, ◌⊎◌, length, slice_get, Option, Some, None, if◌then◌else◌}
use Rattle.std.specs.List.{All, Contains, flat_map}
use Rattle.std.specs.declared.cmp.Ordering.TheVariants.{Less}
use Rattle.std.specs.Ordering.{nat_cmp}
use Rattle.std.specs.Cmp.Lexicographic.{slice_cmp}
use Rattle.ods_base.specs.declared.file_id.FileId.{FileId}
use Rattle.ods_base.specs.declared.listed.Listed.{Listed}
use Rattle.ods_base.specs.Name.{key_of}
use Rattle.ods_base.specs.Names.{lines_of}
use Rattle.ods_header.specs.declared.header.HeaderFault.TheVariants as fault
use Rattle.ods_header.specs.Header.{IsValidHeader, IsFirstFault, segment_of, sequence_of, user_char_of, system_char_of, attributes_of}
use Rattle.ods_header.specs.Home.{IsHomePlace}
use Rattle.ods_space.specs.Layout.{VolumeLayout, header_at, is_in_use, last_number}
use Rattle.ods_space.specs.Files.{IsFile, HasBlocks, Holds}
use Rattle.ods_space.specs.Free.{is_covered, storage_bit}
use Rattle.ods_directory.specs.Mark.{end_block, end_byte}
use Rattle.ods_directory.specs.Names.{IsDirectory, names_of}
use Rattle.ods_mount.specs.declared.fault.MountFault.TheVariants.{BadDirectory, DuplicateName}
use Rattle.ods_mount.specs.Faults.{IsDirectoryFile, IsTrueOf, contents_of, mark_at}
use Rattle.ods_mount.specs.Checks.{HasHeader}
use Rattle.ods_check.specs.declared.finding.NoHeader.{NoHeader}
use Rattle.ods_check.specs.declared.finding.NoHeader.TheVariants.{NoBlock, Checksum, Number, Level, Areas, Format}
use Rattle.ods_check.specs.declared.finding.Finding.{Finding}
use Rattle.ods_check.specs.declared.finding.Finding.TheVariants.{BadHeader, StrayNumbers, LostHeader, HeldByNone, RunHeldByNone, NamesNone, LostFile, EndPast, HiddenEntries, MarkedDeleted, Locked, Unnamed}
use Rattle.ods_directory.specs.Hidden.{HasHidden}
use Rattle.ods_check.specs.Lists.{AreDistinct, AreInOrder}
use Rattle.ods_check.specs.Runs.{IsRun, AreRising}

-- There is no valid header n: it has no block, or the given check is the first that fails.
abbrev pub IsWithout : List (List ℕ) → VolumeLayout → ℕ → NoHeader → Type 0
IsWithout I L n NoBlock = header_at I L n ≡ []
IsWithout I L n Checksum = IsFirstFault (header_at I L n) n fault.BadSum
IsWithout I L n Number = IsFirstFault (header_at I L n) n fault.WrongNumber
IsWithout I L n Level = IsFirstFault (header_at I L n) n fault.BadLevel
IsWithout I L n Areas = IsFirstFault (header_at I L n) n fault.BadLayout
IsWithout I L n Format = IsFirstFault (header_at I L n) n fault.UnsupportedMap

-- the bit of number n in the index bitmap is set, a file may have the number, and there is no valid header n, for this reason
abbrev pub IsBadHeader : List (List ℕ) → VolumeLayout → ℕ → NoHeader → Type 0
IsBadHeader I L n why = IsTrue (is_in_use I L.home n) × (n ≤ last_number L) × IsWithout I L n why

-- the bit of number n in the index bitmap is set, and there is no valid header n
abbrev pub LacksHeader : List (List ℕ) → VolumeLayout → ℕ → Type 0
LacksHeader I L n = IsTrue (is_in_use I L.home n) × ¬ IsValidHeader (header_at I L n) n

-- The bit of number n in the index bitmap is set, and no file may have the number: it is above H.FMAX, or INDEXF.SYS has no block for its header.
-- Header n is not valid.
pub record IsStray (I : List (List ℕ)) (L : VolumeLayout) (n : ℕ) : Type 0 where
  pub in_use : IsTrue (is_in_use I L.home n)
  pub above : last_number L < n
  pub invalid : ¬ IsValidHeader (header_at I L n) n

-- these are all such numbers below `end`, each once
pub record AreStrays (I : List (List ℕ)) (L : VolumeLayout) (end : ℕ) (numbers : List ℕ) : Type 0 where
  pub each : All (λ n. (n < end) × IsStray I L n) numbers
  pub all : (n : ℕ) → n < end → IsStray I L n → Contains numbers n
  pub once : AreDistinct numbers

-- there are `count` such numbers below `end`, and `first` is the lowest, if there is one
pub record IsCountOfStrays (I : List (List ℕ)) (L : VolumeLayout) (end count first : ℕ) : Type 0 where
  pub numbers : List ℕ
  pub are : AreStrays I L end numbers
  pub size : count ≡ length numbers
  pub lowest : 0 < count → Contains numbers first × All (λ n. first ≤ n) numbers

-- LBN b is in the image, and its bit in the storage bitmap is 0, used.
pub record IsMarkedUsed (I : List (List ℕ)) (L : VolumeLayout) (b : ℕ) : Type 0 where
  pub inside : b < length I
  pub covered : IsTrue (is_covered L b)
  pub used : storage_bit I L b ≡ false

-- file m has a whole chain, and holds LBN b
abbrev pub HasBlock : List (List ℕ) → VolumeLayout → ℕ → ℕ → Type 0
HasBlock I L m b = (v : ℕ) × Holds I L m v b

-- LBN b is marked used, and no file with a whole chain holds it. The boot block, LBN 0, and the locations of home blocks are used without a file.
pub record IsHeldByNone (I : List (List ℕ)) (L : VolumeLayout) (b : ℕ) : Type 0 where
  pub marked : IsMarkedUsed I L b
  pub other : b ≢ 0
  pub place : ¬ IsHomePlace b
  pub none : (m v : ℕ) → ¬ Holds I L m v b

-- LBNs first to last are held by no file, and neither are the LBNs just before and just after them
abbrev pub IsUnheldRun : List (List ℕ) → VolumeLayout → ℕ → ℕ → Type 0
IsUnheldRun I L first last = IsRun (IsHeldByNone I L) first last

-- the finding for a run of blocks that no file holds, or for one such block
abbrev pub unheld_line : ℕ → ℕ → Finding
unheld_line first last = if first == last then HeldByNone first else RunHeldByNone first last

-- the ID of header n: its number and its sequence number
abbrev pub id_at : List (List ℕ) → VolumeLayout → ℕ → FileId
id_at I L n = record { number = n; sequence = sequence_of (header_at I L n) }

-- File d is a directory that has these blocks. This is its end mark, which is not past them.
pub record IsWholeDirectory (I : List (List ℕ)) (L : VolumeLayout) (d : ℕ) (blocks : List ℕ) (mark : ℕ) : Type 0 where
  pub file : IsDirectoryFile I L d
  pub has : HasBlocks I L d blocks
  pub few : length blocks < 2 ^ 32
  pub end : mark ≡ mark_at I L d blocks
  pub within : mark ≤ 512 * length blocks

-- If file d is a directory, its chain is whole, and it has neither a bad entry nor two of one name.
pub record IsRead (I : List (List ℕ)) (L : VolumeLayout) (d : ℕ) : Type 0 where
  pub whole : IsDirectoryFile I L d → (blocks : List ℕ) × HasBlocks I L d blocks
  pub good : ¬ IsTrueOf I L (BadDirectory d)
  pub distinct : ¬ IsTrueOf I L (DuplicateName d)

-- all directories have this property, so all names are read
abbrev pub AreAllRead : List (List ℕ) → VolumeLayout → Type 0
AreAllRead I L = (d : ℕ) → IsRead I L d

-- File d is a directory with a whole chain, its used entries are good and distinct, and this is one of its lines.
pub record HasName (I : List (List ℕ)) (L : VolumeLayout) (d : ℕ) (line : Listed) : Type 0 where
  pub blocks : List ℕ
  pub has : HasBlocks I L d blocks
  pub file : IsDirectoryFile I L d
  pub good : IsDirectory (contents_of I blocks) (mark_at I L d blocks)
  pub named : Contains (lines_of (names_of (contents_of I blocks) (mark_at I L d blocks))) line

-- the ID belongs to a file, by number and sequence number
abbrev pub IsIdOfFile : List (List ℕ) → VolumeLayout → FileId → Type 0
IsIdOfFile I L id = IsFile I L id.number × (sequence_of (header_at I L id.number) ≡ id.sequence)

-- a line is before another in the order of names: by its key, as a list of numbers
abbrev pub ComesBefore : Listed → Listed → Type 0
ComesBefore x y = slice_cmp nat_cmp (key_of x.name x.version) (key_of y.name y.version) ≡ Less

-- these are all lines of directory d, each once and in the order of names; any other number has none
pub record AreNames (I : List (List ℕ)) (L : VolumeLayout) (d : ℕ) (lines : List Listed) : Type 0 where
  pub each : All (HasName I L d) lines
  pub all : (line : Listed) → HasName I L d line → Contains lines line
  pub rising : AreInOrder ComesBefore lines

-- the line names file n, which exists
abbrev pub IsNumberOf : List (List ℕ) → VolumeLayout → Listed → ℕ → Type 0
IsNumberOf I L line n = IsIdOfFile I L line.file × (line.file.number ≡ n)

-- line i of these names file n, which exists
abbrev pub NamesAt : List (List ℕ) → VolumeLayout → List Listed → ℕ → ℕ → Type 0
NamesAt I L lines i n = (line : Listed) × (slice_get lines i ≡ Some line) × IsNumberOf I L line n

-- a line of directory d names file n, which exists
abbrev pub NamesFile : List (List ℕ) → VolumeLayout → ℕ → ℕ → Type 0
NamesFile I L d n = (line : Listed) × HasName I L d line × IsNumberOf I L line n

-- this line of directory d names no file
abbrev pub IsNamingNone : List (List ℕ) → VolumeLayout → ℕ → Listed → Type 0
IsNamingNone I L d line = HasName I L d line × ¬ IsIdOfFile I L line.file

-- File n is not one of the reserved files 1 to 5, and no line of any directory names it.
pub record IsLostFile (I : List (List ℕ)) (L : VolumeLayout) (n : ℕ) : Type 0 where
  pub other : 5 < n
  pub file : IsFile I L n
  pub lost : (d : ℕ) (line : Listed) → HasName I L d line → line.file ≢ id_at I L n

-- n is a header in the chain of file m
abbrev pub HasAsHeader : List (List ℕ) → VolumeLayout → ℕ → ℕ → Type 0
HasAsHeader I L m n = (v : ℕ) × HasHeader I L m v n

-- Header n is in use and valid. It is an extension header by M.ESQN, and is in no chain of a file.
pub record IsLostHeader (I : List (List ℕ)) (L : VolumeLayout) (n : ℕ) : Type 0 where
  pub in_use : IsTrue (is_in_use I L.home n)
  pub valid : IsValidHeader (header_at I L n) n
  pub later : segment_of (header_at I L n) ≢ 0
  pub lost : (m v : ℕ) → ¬ HasHeader I L m v n

-- the end of a file by its attributes, in bytes: (F.EFBK - 1) * 512 + F.FFBY, or 0 if F.EFBK is 0
abbrev pub end_of : List ℕ → ℕ
end_of attributes = if end_block attributes == 0 then 0 else (end_block attributes - 1) * 512 + end_byte attributes

-- File n has a whole chain, is not a directory, and ends past its blocks. INDEXF.SYS and BITMAP.SYS, files 1 and 2, have no end of their own.
pub record IsEndPast (I : List (List ℕ)) (L : VolumeLayout) (n : ℕ) : Type 0 where
  pub other : 2 < n
  pub plain : ¬ IsDirectoryFile I L n
  pub blocks : List ℕ
  pub has : HasBlocks I L n blocks
  pub past : 512 * length blocks < end_of (attributes_of (header_at I L n))

-- File n is a directory with a whole chain, and has used entries after its end mark.
pub record IsHiding (I : List (List ℕ)) (L : VolumeLayout) (n : ℕ) : Type 0 where
  pub file : IsDirectoryFile I L n
  pub blocks : List ℕ
  pub has : HasBlocks I L n blocks
  pub hidden : HasHidden (contents_of I blocks) (mark_at I L n blocks)

-- 200 octal is set in H.SCHA of this header
abbrev pub SaysDeleted : List ℕ → Type 0
SaysDeleted header = system_char_of header / 128 % 2 ≡ 1

-- 100 octal is set in H.UCHA of this header
abbrev pub SaysLocked : List ℕ → Type 0
SaysLocked header = user_char_of header / 64 % 2 ≡ 1

-- file n is marked for deletion
abbrev pub IsMarkedDeleted : List (List ℕ) → VolumeLayout → ℕ → Type 0
IsMarkedDeleted I L n = IsFile I L n × SaysDeleted (header_at I L n)

-- file n is locked
abbrev pub IsLocked : List (List ℕ) → VolumeLayout → ℕ → Type 0
IsLocked I L n = IsFile I L n × SaysLocked (header_at I L n)

-- n is the number of INDEXF.SYS, BITMAP.SYS or 000000.DIR
abbrev pub IsSystemFile : ℕ → Type 0
IsSystemFile n = (n ≡ 1) ⊎ ((n ≡ 2) ⊎ (n ≡ 4))

-- the Radix-50 words of the system files' names, with the type last: INDEXF.SYS is file 1, BITMAP.SYS is file 2, 000000.DIR is file 4
abbrev pub system_words : ℕ → List ℕ
system_words n =
    if n == 1 then 14964 ∷ 8966 ∷ 0 ∷ 31419 ∷ []
    else if n == 2 then 3580 ∷ 20856 ∷ 0 ∷ 31419 ∷ []
    else 49230 ∷ 49230 ∷ 0 ∷ 6778 ∷ []

-- the line has a name of these words, in any version, and names the file of this number and sequence number
abbrev pub IsLineOf : List ℕ → ℕ → ℕ → Listed → Type 0
IsLineOf words number sequence line = (line.name.words ++ line.name.ext ∷ [] ≡ words) × (line.file.number ≡ number) × (line.file.sequence ≡ sequence)

-- File n is INDEXF.SYS, BITMAP.SYS or 000000.DIR. The names of the master directory are read, and no line has that name and names the file.
pub record IsUnnamed (I : List (List ℕ)) (L : VolumeLayout) (n : ℕ) : Type 0 where
  pub system : IsSystemFile n
  pub file : IsFile I L n
  pub read : IsRead I L 4
  pub none : (line : Listed) → HasName I L 4 line → ¬ IsLineOf (system_words n) n (sequence_of (header_at I L n)) line

-- the finding holds
abbrev pub IsFound : List (List ℕ) → VolumeLayout → Finding → Type 0
IsFound I L (BadHeader n why) = IsBadHeader I L n why
IsFound I L (StrayNumbers count first) = (0 < count) × IsCountOfStrays I L 65536 count first
IsFound I L (HeldByNone b) = IsUnheldRun I L b b
IsFound I L (RunHeldByNone first last) = (first < last) × IsUnheldRun I L first last
IsFound I L (NamesNone d line) = IsNamingNone I L d line
IsFound I L (LostFile id) = IsLostFile I L id.number × (id ≡ id_at I L id.number)
IsFound I L (LostHeader id) = IsLostHeader I L id.number × (id ≡ id_at I L id.number)
IsFound I L (EndPast id) = IsEndPast I L id.number × (id ≡ id_at I L id.number)
IsFound I L (HiddenEntries n) = IsHiding I L n
IsFound I L (MarkedDeleted id) = IsMarkedDeleted I L id.number × (id ≡ id_at I L id.number)
IsFound I L (Locked id) = IsLocked I L id.number × (id ≡ id_at I L id.number)
IsFound I L (Unnamed n) = IsUnnamed I L n

-- the file that the finding is about
abbrev pub file_of : Finding → Option ℕ
file_of (BadHeader n why) = None
file_of (StrayNumbers count first) = None
file_of (HeldByNone b) = None
file_of (RunHeldByNone first last) = None
file_of (NamesNone d line) = Some d
file_of (LostFile id) = None
file_of (LostHeader id) = None
file_of (EndPast id) = Some id.number
file_of (HiddenEntries n) = Some n
file_of (MarkedDeleted id) = Some id.number
file_of (Locked id) = Some id.number
file_of (Unnamed n) = Some n

-- the first and the last block of the run in a finding
abbrev pub run_of : Finding → List (ℕ × ℕ)
run_of (HeldByNone b) = (b, b) ∷ []
run_of (RunHeldByNone first last) = (first, last) ∷ []
run_of _ = []

-- the runs in the findings, in their order
abbrev pub runs_of : List Finding → List (ℕ × ℕ)
runs_of findings = flat_map run_of findings

-- the finding holds, and is not a run of blocks
abbrev pub IsOtherFound : List (List ℕ) → VolumeLayout → Finding → Type 0
IsOtherFound I L finding = IsFound I L finding × (run_of finding ≡ [])

-- if number n is in use, has no valid header, and a file may have it, then the findings contain it
abbrev pub TellsHeader : List (List ℕ) → VolumeLayout → ℕ → List Finding → Type 0
TellsHeader I L n findings = IsTrue (is_in_use I L.home n) → ¬ IsValidHeader (header_at I L n) n → n ≤ last_number L → (why : NoHeader) × Contains findings (BadHeader n why)

-- if numbers are in use that no file may have and that have no valid header, one finding counts them
abbrev pub TellsStrays : List (List ℕ) → VolumeLayout → List Finding → Type 0
TellsStrays I L findings = (n : ℕ) → n < 65536 → IsStray I L n → (count first : ℕ) × IsCountOfStrays I L 65536 count first × Contains findings (StrayNumbers count first)

-- the findings contain a run with LBN b
abbrev pub TellsUnheld : List Finding → ℕ → Type 0
TellsUnheld findings b = (first last : ℕ) × (first ≤ b) × (b ≤ last) × Contains findings (unheld_line first last)

-- The findings contain everything there is to find, each run of blocks once and in order, and lost files if they are requested.
pub record FindsAll (I : List (List ℕ)) (L : VolumeLayout) (with_lost : Bool) (findings : List Finding) : Type 0 where
  pub headers : (n : ℕ) → n < 65536 → TellsHeader I L n findings
  pub strays : TellsStrays I L findings
  pub lost_headers : (n : ℕ) → IsLostHeader I L n → Contains findings (LostHeader (id_at I L n))
  pub unheld : (b : ℕ) → IsHeldByNone I L b → TellsUnheld findings b
  pub rising : AreRising (runs_of findings)
  pub names : (d : ℕ) (line : Listed) → IsNamingNone I L d line → Contains findings (NamesNone d line)
  pub lost : with_lost ≡ true → (n : ℕ) → IsLostFile I L n → Contains findings (LostFile (id_at I L n))
  pub ends : (n : ℕ) → IsEndPast I L n → Contains findings (EndPast (id_at I L n))
  pub hidden : (n : ℕ) → IsHiding I L n → Contains findings (HiddenEntries n)
  pub marked : (n : ℕ) → IsMarkedDeleted I L n → Contains findings (MarkedDeleted (id_at I L n))
  pub locked : (n : ℕ) → IsLocked I L n → Contains findings (Locked (id_at I L n))
  pub unnamed : (n : ℕ) → IsUnnamed I L n → Contains findings (Unnamed n)
