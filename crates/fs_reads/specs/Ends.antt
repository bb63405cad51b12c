-- The exit status of a command: for each fault of a word, and for a command that went on to its end or did not.
use Rattle.std.specs.Prelude.{◌≡◌, ◌≢◌, ℕ, Bool, true, false, List, ◌++◌, Result, Ok, Err, ◌⊎◌, IsTrue, codes, string_bytes}
use Rattle.std.specs.Borrow.{Bor}
use Rattle.fs_host.specs.Faults.{is_reason}
use Rattle.fs_host.specs.Texts.{shown_text}
use Rattle.ods_shell.specs.Found.{HasPathStatus}
use Rattle.ods_shell.specs.declared.path_fault.PathFault.TheVariants.{NoMemory as NoMemoryFor}
use Rattle.ods_shell.specs.declared.status.Status.{Status}
use Rattle.ods_shell.specs.declared.status.Status.TheVariants as status
use Rattle.fs_reads.specs.declared.stop.Stop.{Stop}
use Rattle.fs_reads.specs.declared.stop.Stop.TheVariants as stop
use Rattle.fs_reads.specs.declared.stop.WordFault.{WordFault}
use Rattle.fs_reads.specs.declared.stop.WordFault.TheVariants as fault

-- the status is `Words` for a wrong word, `Refused` for a lack of room, a loss of blocks or a date, and otherwise `Host`
abbrev pub HasWordStatus : WordFault → Status → Type 0
HasWordStatus fault.NoFolder s = s ≡ status.Words
HasWordStatus fault.OneDirectory s = s ≡ status.Words
HasWordStatus fault.NoText s = s ≡ status.Words
HasWordStatus (fault.ManyBytes most) s = s ≡ status.Words
HasWordStatus fault.NoLabel s = s ≡ status.Words
HasWordStatus fault.NoPath s = s ≡ status.Words
HasWordStatus (fault.OtherSize bytes) s = s ≡ status.Words
HasWordStatus (fault.OtherBlocks blocks) s = s ≡ status.Words
HasWordStatus fault.Short s = s ≡ status.Refused
HasWordStatus fault.NoDate s = s ≡ status.Refused
HasWordStatus fault.Lacking s = s ≡ status.Refused
HasWordStatus (fault.Large size room) s = s ≡ status.Refused
HasWordStatus (fault.LargeStream room) s = s ≡ status.Refused
HasWordStatus (fault.Unread why) s = s ≡ status.Host
HasWordStatus fault.OwnOutput s = s ≡ status.Host
HasWordStatus fault.NotEmpty s = s ≡ status.Host
HasWordStatus fault.Folder s = s ≡ status.Host
HasWordStatus (fault.Unmade why) s = s ≡ status.Host
HasWordStatus (fault.Unsaved why) s = s ≡ status.Host

-- the status of a command that ends early
abbrev pub StopsWith : Stop → Status → Type 0
StopsWith (stop.Path path why) s = HasPathStatus why s
StopsWith (stop.Word word why) s = HasWordStatus why s
StopsWith (stop.Image path why) s = s ≡ status.Image
StopsWith (stop.Closed number user) s = s ≡ status.Refused
StopsWith (stop.Unwritten why) s = s ≡ status.Host
StopsWith (stop.SavedUnwritten why) s = s ≡ status.Host
StopsWith stop.NoTime s = s ≡ status.Host
StopsWith stop.NoMemory s = s ≡ status.Host
StopsWith (stop.Lines lines own) s = s ≡ own

-- the status of any command
abbrev pub EndsWith : Result Status Stop → Status → Type 0
EndsWith (Ok own) s = s ≡ own
EndsWith (Err why) s = StopsWith why s

-- a line about something: what it is, in printable form, and why
abbrev pub about_line : List ℕ → List ℕ → List ℕ
about_line what why = shown_text what ++ (codes ": " ++ why)

-- the text for a path that matches two entries of one directory, with one name and version
abbrev pub two_entries : List ℕ
two_entries = codes "two entries have this name; 'find' lists their IDs, and '#N,S' says which is meant"

-- if the command ends with a line of its own, this is the line
abbrev pub SaysLine : List ℕ → Stop → Type 0
SaysLine line (stop.Lines lines own) = string_bytes lines ≡ line
SaysLine line other = Unit {0}

-- the status of a check: nothing is found, and then this holds, or something is
abbrev pub EndsCheck : Type 0 → Status → Type 0
EndsCheck Holds s = ((s ≡ status.Done) × Holds) ⊎ (s ≡ status.Found)

-- the status of a comparison: the images are alike, or they differ, or no image was said, or the other one is refused
abbrev pub EndsCompare : Status → Type 0
EndsCompare s = (s ≡ status.Done) ⊎ ((s ≡ status.Found) ⊎ ((s ≡ status.Words) ⊎ (s ≡ status.Image)))

-- the status of files that paths select: the image is not refused, and nothing is looked for
abbrev pub may_name : Status → Bool
may_name status.Image = false
may_name status.Found = false
may_name s = true

-- a command ends because a path selects nothing, or out of memory
abbrev pub EndsPath : Bor (List ℕ) → Stop → Type 0
EndsPath path (stop.Path word why) = (word ≡ path) × (why ≢ NoMemoryFor)
EndsPath path stop.NoMemory = Unit {0}
EndsPath path other = ⊥

-- how a command ends that prints: out of memory, or the host does not accept the output
abbrev pub EndsPrinting : Stop → Type 0
EndsPrinting (stop.Unwritten why) = IsTrue (is_reason why)
EndsPrinting stop.NoMemory = Unit {0}
EndsPrinting other = ⊥
