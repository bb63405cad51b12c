-- What commands that change a volume leave of it.
use Rattle.std.specs.Prelude.{◌≡◌, ◌⊎◌, ◌-◌, ℕ, zero, suc, min, nat_lt, if◌then◌else◌, List, [], ◌∷◌, ◌++◌, length, take, slice_get, Bool, true, false, IsTrue, Option, Some, None, unwrap_or, not}
use Rattle.std.specs.Borrow.{Bor}
use Rattle.ods_base.specs.declared.file_id.FileId.{FileId}
use Rattle.ods_base.specs.declared.file_id.Uic.{Uic}
use Rattle.ods_init.specs.Label.{is_label_text, label_of}
use Rattle.ods_shell.specs.declared.status.Status.{Status}
use Rattle.ods_shell.specs.declared.status.Status.TheVariants as status
use Rattle.fs_words.specs.declared.actions.Action.{Action}
use Rattle.fs_words.specs.declared.actions.Action.TheVariants as action
use Rattle.fs_words.specs.declared.actions.Change.{Change}
use Rattle.fs_words.specs.declared.actions.Change.TheVariants as change
use Rattle.fs_words.specs.declared.actions.PutWords.{PutWords}
use Rattle.fs_words.specs.declared.words.Words.{Words}
use Rattle.fs_words.specs.Lines.{words_in}
use Rattle.fs_words.specs.Parts.{IsLineOf}
use Rattle.fs_reads.specs.declared.stop.Stop.{Stop}
use Rattle.fs_reads.specs.declared.stop.Stop.TheVariants as stop
use Rattle.ods_filing.specs.Amended.{HasGiven, HasGotLabel}
use Rattle.ods_filing.specs.Filed.{Filed, for_another}
use Rattle.ods_filing.specs.Led.{IsLed}
use Rattle.ods_upkeep.specs.Appended.{IsGrown, IsOpened}
use Rattle.ods_upkeep.specs.Begun.{IsBegun}
use Rattle.ods_upkeep.specs.Kinds.{Appends, Cuts, Removes, Renames}
use Rattle.ods_upkeep.specs.Copied.{IsCopiedTo}
use Rattle.ods_upkeep.specs.Cut.{IsTruncated}
use Rattle.ods_upkeep.specs.Emptied.{AreEmptied}
use Rattle.ods_upkeep.specs.Given.{AreGiven}
use Rattle.ods_upkeep.specs.Made.{AreMade}
use Rattle.ods_upkeep.specs.Moved.{IsMoved}
use Rattle.ods_upkeep.specs.Purged.{IsPurged}
use Rattle.ods_upkeep.specs.Removed.{IsRemoved}
use Rattle.ods_upkeep.specs.HostPut.{IsHostPut}
use Rattle.ods_upkeep.specs.Left.{InPut, at_time}
use Rattle.ods_upkeep.specs.Ready.{MayHaveGrown}
use Rattle.ods_upkeep.specs.declared.asked.Placing.{Placing}
use Rattle.ods_shell.specs.declared.facts.Facts.{Facts}
use Rattle.f11fs.specs.CopiedOver.{CopiesBelow}
use Rattle.f11fs.specs.Dated.{IsHostTime, takes_times}
use Rattle.f11fs.specs.Forms.{form_said, placing_for, placing_said}
use Rattle.f11fs.specs.Given.{Bytes, HostGives}
use Rattle.f11fs.specs.TreePut.{IsTreePut}
use Rattle.f11fs.specs.Unpacked.{AreUntarred}
use Rattle.f11fs.specs.Readings.{IsLastPart}

-- how many of this number of words of a put name host files: all but the last, if there are several
abbrev pub host_count : ℕ → ℕ
host_count zero = zero
host_count (suc zero) = 1
host_count (suc (suc n)) = suc n

-- the words that name host files
abbrev pub hosts_among : List (Bor (List ℕ)) → List (Bor (List ℕ))
hosts_among words = take (host_count (length words)) words

-- the target: with two words or more the last is the path on the volume
abbrev pub path_among : List (Bor (List ℕ)) → Option (Bor (List ℕ))
path_among words = if nat_lt 1 (length words) then slice_get words (length words - 1) else None

-- A host file that gives these bytes was put, with the state before. Its name is the part after the last slash of its path. It has the time of the
-- run, or if it is dated the time of its host file.
abbrev pub IsOnePut : HostGives → Bool → List ℕ → InPut → List ℕ → List ℕ → Filed → InPut → Filed → Type 0
IsOnePut Gives dated run p host bytes old q new =
    (name : List ℕ) × ((stamp : List ℕ) × Gives host (Bytes bytes) × IsLastPart host name × IsHostTime (not dated) run stamp × IsHostPut (at_time p stamp) name bytes old q new)

-- Host files were put, in order.
abbrev pub ArePutNext : HostGives → Bool → List ℕ → InPut → List (Bor (List ℕ)) → Filed → InPut → Filed → Type 0
ArePutNext Gives dated run p [] old q new = (q ≡ p) × (new ≡ old)
ArePutNext Gives dated run p (host ∷ hosts) old q new =
    (bytes : List ℕ) × ((r : InPut) × ((mid : Filed) × IsOnePut Gives dated run p host.now bytes old r mid × ArePutNext Gives dated run r hosts mid q new))

-- Each host file that the words name was put at the specified target, in the specified form, at the specified time and for the specified owner;
-- `said` is whether the words specify a time. Nothing else was done.
pub record ArePut (Gives : HostGives) (said : Bool) (how : PutWords) (words : List (Bor (List ℕ))) (stamp : List ℕ) (old new : Filed) : Type 0 where
  -- what is looked up before the first
  pub begun : InPut
  pub begins : IsBegun old.image old.layout stamp (path_among words) (nat_lt 1 (length (hosts_among words))) (form_said how) how.like (placing_said how) how.replace how.owner begun
  pub ready : Filed
  pub made_ready : MayHaveGrown (length (hosts_among words)) old ready
  pub known : InPut
  pub put : ArePutNext Gives (takes_times how said) stamp begun (hosts_among words) ready known new

-- what a put leaves: a tree of a folder, if it is requested, otherwise host files one by one
abbrev pub PutsBelow : HostGives → Bool → Bool → PutWords → List (Bor (List ℕ)) → List ℕ → Filed → Filed → Type 0
PutsBelow Gives true said how words stamp old new = IsTreePut Gives said how words stamp old new
PutsBelow Gives false said how words stamp old new = ArePut Gives said how words stamp old new

-- directories are made as mkdir does, after INDEXF.SYS may have grown for them
abbrev pub MakesAll : Option Uic → ℕ → List ℕ → List (Bor (List ℕ)) → Filed → Filed → Type 0
MakesAll owner names stamp words old new = (ready : Filed) × MayHaveGrown (length words) old ready × AreMade owner names stamp words ready new

-- the names of these words have moved to the last one
abbrev pub MovesToLast : List (Bor (List ℕ)) → Filed → Filed → Type 0
MovesToLast words old new = (from : List (Bor (List ℕ))) × ((to : Bor (List ℕ)) × (words ≡ from ++ to ∷ []) × IsMoved from to.now old new)

-- the files of these words are copied to the last one, with their blocks allocated by this placing
abbrev pub CopiesToLast : Placing → List (Bor (List ℕ)) → List ℕ → Filed → Filed → Type 0
CopiesToLast placing words stamp old new = (from : List (Bor (List ℕ))) × ((to : Bor (List ℕ)) × (words ≡ from ++ to ∷ []) × IsCopiedTo placing stamp from to.now old new)

-- the file of the first word has this number of bytes
abbrev pub CutsFirst : List (Bor (List ℕ)) → ℕ → Filed → Filed → Type 0
CutsFirst words bytes old new = (path : Bor (List ℕ)) × ((others : List (Bor (List ℕ))) × (words ≡ path ∷ others) × IsTruncated path.now bytes old new)

-- past the end of the file that the path names are the bytes that a host file gives
abbrev pub AppendsTo : HostGives → List ℕ → List ℕ → Filed → Filed → Type 0
AppendsTo Gives path host old new = (facts : Facts) × ((bytes : List ℕ) × Gives host (Bytes bytes) × IsOpened old.image old.layout path facts × IsGrown facts bytes old new)

-- the first word is the path, and the second the host file
abbrev pub AppendsToFirst : HostGives → List (Bor (List ℕ)) → Filed → Filed → Type 0
AppendsToFirst Gives words old new = (path : Bor (List ℕ)) × ((host : Bor (List ℕ)) × (slice_get words 0 ≡ Some path) × (slice_get words 1 ≡ Some host) × AppendsTo Gives path.now host.now old new)

-- the text is a label, and the volume has got it
abbrev pub IsLabelled : List ℕ → Filed → Filed → Type 0
IsLabelled text old new = IsTrue (is_label_text text) × HasGotLabel old (label_of text) new

-- the text is not a valid label
abbrev pub IsNoLabel : List ℕ → Type 0
IsNoLabel text = ¬ IsTrue (is_label_text text)

-- What a change leaves that is made whole, by the words after its name, by the time of new files, and by what the host gives.
abbrev pub IsChanged : HostGives → Change → List (Bor (List ℕ)) → List ℕ → Filed → Filed → Type 0
IsChanged Gives (change.Put how) words stamp old new = (said : Bool) × PutsBelow Gives how.below said how words stamp old new
IsChanged Gives change.Untar words stamp old new = (said : Bool) × AreUntarred Gives said words stamp old new
IsChanged Gives (change.CpFrom how) words stamp old new = (said : Bool) × CopiesBelow Gives how.below said how words stamp old new
IsChanged Gives (change.Cp contiguous) words stamp old new = CopiesToLast (placing_for contiguous) words stamp old new
IsChanged Gives change.Mv words stamp old new = MovesToLast words old new
IsChanged Gives (change.Rm entry_alone newest) words stamp old new = IsRemoved entry_alone newest words old new
IsChanged Gives (change.Purge keep) words stamp old new = IsPurged keep words old new
IsChanged Gives (change.Mkdir names owner) words stamp old new = MakesAll owner (unwrap_or names 0) stamp words old new
IsChanged Gives change.Rmdir words stamp old new = AreEmptied words old new
IsChanged Gives (change.Truncate bytes) words stamp old new = CutsFirst words bytes old new
IsChanged Gives change.Append words stamp old new = AppendsToFirst Gives words old new
IsChanged Gives (change.Chmod protection) words stamp old new = AreGiven None (Some protection) words old new
IsChanged Gives (change.Chown owner) words stamp old new = AreGiven (Some owner) None words old new
IsChanged Gives (change.Label text) words stamp old new = IsLabelled text.now old new

-- files have received this owner and this protection, each if it is given, in order
abbrev pub HaveGot : Option Uic → Option ℕ → List FileId → Filed → Filed → Type 0
HaveGot owner protection [] old new = new ≡ old
HaveGot owner protection (file ∷ files) old new = (mid : Filed) × HasGiven old file owner protection mid × HaveGot owner protection files mid new

-- some files have received these, and nothing else was done
abbrev pub SomeGot : Option Uic → Option ℕ → Filed → Filed → Type 0
SomeGot owner protection old new = (files : List FileId) × HaveGot owner protection files old new

-- what some changes leave, refused or not: only what their requests leave, or some of what they give
abbrev pub KeepsTo : Change → Filed → Filed → Type 0
KeepsTo (change.Put how) old new = Unit {0}
KeepsTo change.Untar old new = Unit {0}
KeepsTo (change.CpFrom how) old new = Unit {0}
KeepsTo (change.Cp contiguous) old new = Unit {0}
KeepsTo change.Mv old new = IsLed Renames old new
KeepsTo (change.Rm entry_alone newest) old new = IsLed (Removes entry_alone) old new
KeepsTo (change.Purge keep) old new = IsLed (Removes false) old new
KeepsTo (change.Mkdir names owner) old new = Unit {0}
KeepsTo change.Rmdir old new = IsLed (Removes false) old new
KeepsTo (change.Truncate bytes) old new = IsLed Cuts old new
KeepsTo change.Append old new = IsLed Appends old new
KeepsTo (change.Chmod protection) old new = SomeGot None (Some protection) old new
KeepsTo (change.Chown owner) old new = SomeGot (Some owner) None old new
KeepsTo (change.Label text) old new = (new ≡ old) ⊎ IsLabelled text.now old new

-- the volume is the same, whichever user requests
abbrev pub HasSameVolume : Filed → Filed → Type 0
HasSameVolume old new = (new.image ≡ old.image) × (new.layout ≡ old.layout)

-- what a command leaves of a usable volume: that volume; or, if it is done and requests a change, what the change leaves
abbrev pub IsDoneNow : HostGives → Action → List (Bor (List ℕ)) → List ℕ → Status → Filed → Filed → Type 0
IsDoneNow Gives asked words stamp s old new = (new ≡ old) ⊎ ((c : Change) × (asked ≡ action.Change c) × (s ≡ status.Done) × IsChanged Gives c words stamp old new)

-- What a command leaves of a usable volume: the same volume; or, if it is done and requests a change, what that leaves for this user.
abbrev pub IsDoneBy : HostGives → Action → List (Bor (List ℕ)) → List ℕ → Uic → Status → Filed → Filed → Type 0
IsDoneBy Gives asked words stamp user s old new =
    HasSameVolume old new
    ⊎ ((c : Change) × (asked ≡ action.Change c) × (s ≡ status.Done) × IsChanged Gives c words stamp (for_another old user) new)

-- the words of this line request a command on the volume of this image
abbrev pub IsCommandOf : Bor (List ℕ) → List ℕ → Words → Type 0
IsCommandOf image line own = (words : List (List ℕ)) × (words_in line ≡ Some words) × IsLineOf image words (Some own)

-- What a line leaves of a usable volume: the same volume; or what its command leaves, with the stamp and for the user that the line specifies, or
-- otherwise with these.
abbrev pub IsLineDone : HostGives → Bor (List ℕ) → List ℕ → Uic → List ℕ → Status → Filed → Filed → Type 0
IsLineDone Gives image stamp user line s old new =
    HasSameVolume old new
    ⊎ ((own : Words) × IsCommandOf image line own × IsDoneBy Gives own.action own.paths.items (unwrap_or own.stamp stamp) (unwrap_or own.user user) s old new)

-- whether a command is refused that ends with this status
abbrev pub is_refused : Status → Bool
is_refused status.Done = false
is_refused status.Found = false
is_refused status.Image = true
is_refused status.Words = true
is_refused status.Host = true
is_refused status.Refused = true
is_refused status.Nothing = true

-- the lines that a command ends with have the status of a refusal
abbrev pub IsRefusal : Stop → Type 0
IsRefusal (stop.Lines lines s) = is_refused s ≡ true
IsRefusal other = Unit {0}

-- the status of the first of these that is not done
abbrev pub first_fault : List Status → Status
first_fault [] = status.Done
first_fault (status.Done ∷ rest) = first_fault rest
first_fault (s ∷ rest) = s

-- a run goes on after a line that ends with this status: it is not refused, or the run continues after a refusal
abbrev pub GoesOn : Bool → Status → Type 0
GoesOn goes_on s = (goes_on ≡ true) ⊎ (is_refused s ≡ false)

-- What these lines leave, in order, and how each ends. The run goes on after each.
abbrev pub AreLinesDone : HostGives → Bor (List ℕ) → List ℕ → Uic → Bool → List (List ℕ) → List Status → Filed → Filed → Type 0
AreLinesDone Gives image stamp user goes_on [] statuses old new = (statuses ≡ []) × (new ≡ old)
AreLinesDone Gives image stamp user goes_on (line ∷ lines) statuses old new = (s : Status) × (later : List Status) × (mid : Filed) × (statuses ≡ s ∷ later) × GoesOn goes_on s
    × IsLineDone Gives image stamp user line s old mid × AreLinesDone Gives image stamp user goes_on lines later mid new

-- these lines are done, and the run has the status of the first that is not done
abbrev pub AreAllDone : HostGives → Bor (List ℕ) → List ℕ → Uic → Bool → List (List ℕ) → Status → Filed → Filed → Type 0
AreAllDone Gives image stamp user goes_on lines s old new = (statuses : List Status) × AreLinesDone Gives image stamp user goes_on lines statuses old new × (s ≡ first_fault statuses)

-- the command requests a change
abbrev pub IsChange : Action → Type 0
IsChange asked = (c : Change) × (asked ≡ action.Change c)

-- the words of this line request a change
abbrev pub AsksChange : Bor (List ℕ) → List ℕ → Type 0
AsksChange image line = (own : Words) × IsCommandOf image line own × IsChange own.action

-- Why a line ends a run: it is refused, with this status. The run does not continue after a refusal, or the line requests a change, which may be made
-- in part.
abbrev pub EndsRun : Bor (List ℕ) → Bool → List ℕ → Status → Type 0
EndsRun image goes_on line s = (is_refused s ≡ true) × ((goes_on ≡ false) ⊎ AsksChange image line)

-- The lines before one are done, and that one ends the run with its status.
abbrev pub AreLinesEnded : HostGives → Bor (List ℕ) → List ℕ → Uic → Bool → List (List ℕ) → Status → Filed → Type 0
AreLinesEnded Gives image stamp user goes_on lines s old =
    (front : List (List ℕ)) × (line : List ℕ) × (behind : List (List ℕ)) × (statuses : List Status) × (mid : Filed) × (lines ≡ front ++ line ∷ behind)
    × AreLinesDone Gives image stamp user goes_on front statuses old mid × EndsRun image goes_on line s
