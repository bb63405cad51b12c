-- The end of a run that serves scripts: the bytes that were read and written, and the list of requests that produced them.
use Rattle.std.specs.Prelude.{◌≡◌, ℕ, ◌⊎◌, List, [], ◌∷◌, ◌++◌, length, map, codes, Option, None, Some, Result, Ok, Err}
use Rattle.std.specs.Fmt.{decimal}
use Rattle.std.specs.Io.KnownBytes.{Appends, Keeps}
use Rattle.ods_base.specs.Image.{TookBytes, image_bytes}
use Rattle.ods_space.specs.Layout.{VolumeLayout}
use Rattle.ods_space.specs.Free.{free_blocks, free_numbers}
use Rattle.ods_mount.specs.declared.fault.MountFault.{MountFault}
use Rattle.ods_mount.specs.Refusals.{mount_row}
use Rattle.ods_mount.specs.Faults.{FaultIsTrue}
use Rattle.ods_mount.specs.Sound.{IsSoundBy}
use Rattle.ods_request.specs.declared.answers.Entry.{Entry}
use Rattle.ods_state.specs.Version.{State, IsLawful, IsVersionBy}
use Rattle.ods_ask.specs.declared.script.Script.{Script}
use Rattle.ods_ask.specs.declared.outcome.Outcome.{Outcome}
use Rattle.ods_share.specs.declared.settlement.Report.{Report}
use Rattle.ods_share.specs.Scripts.{EachOutcome, all_saw}
use Rattle.ods_share.specs.Settles.{Calls, AreCalls, AreLengths, IsSettled}
use Rattle.ods_script.specs.Texts.{sessions_text}
use Rattle.ods_cli.specs.Reply.{AreImageBytes, AreNoImage, IsReplyFault}
use Rattle.ods_cli.specs.ImageLines.{count_lines, fault_line}
use Rattle.ods_cli.specs.declared.fault.ServeFault.{ServeFault}
use Rattle.ods_cli.specs.declared.fault.ServeFault.TheVariants.{Read, Write, WriteOut, NoMemory, Refused, NoThread, Unmatched}

-- the list of calls of each session
abbrev pub calls_in : List Outcome → List Calls
calls_in os = map (λ (o : Outcome). o.calls) os

-- list n, then the lines about what is free
abbrev pub totals_text : ℕ → ℕ → ℕ → List ℕ
totals_text entries blocks numbers = codes "list " ++ decimal entries ++ 10 ∷ count_lines blocks numbers

-- The image I was served: a list of accepted requests turns it into the image J. Its entries are exactly the calls of the scripts, each session's in
-- the order of its script, with the answers of the replies. Each session began with a viewer that had seen nothing, and each refusal is a refusal of
-- a volume over I. The reply that the list is full comes only if the list has as many entries as the limit. The report has the list's numbers, and
-- the text has the replies and the totals. Without a script J is I.
pub record IsServedTo (stamp : List ℕ) (scripts : List Script) (limit : ℕ) (I J : List (List ℕ)) (r : Report) (text : List ℕ) : Type 0 where
  pub entries : List Entry
  pub layout : VolumeLayout
  pub version : IsVersionBy I entries J layout
  pub outcomes : List Outcome
  pub count : length outcomes ≡ length scripts
  pub each : EachOutcome I stamp (all_saw []) (length entries ≡ limit) scripts outcomes
  pub calls : AreCalls entries (calls_in outcomes)
  pub report : AreLengths entries (calls_in outcomes) r
  pub lines : text ≡ sessions_text 1 scripts outcomes ++ totals_text (length entries) (length (free_blocks J layout)) (length (free_numbers J layout))
  pub unchanged : length scripts ≡ 0 → J ≡ I

-- the image is sound, by some layout
abbrev pub IsSoundImage : List (List ℕ) → Type 0
IsSoundImage I = (L : VolumeLayout) × IsSoundBy I L

-- the bytes that were read are a sound image
pub record AreSound (bytes : List ℕ) (rest : Option (List ℕ)) (I : List (List ℕ)) : Type 0 where
  pub read : AreImageBytes bytes rest I
  pub sound : IsSoundImage I

-- the bytes are a sound image, which was served
pub record IsRun (stamp : List ℕ) (scripts : List Script) (limit : ℕ) (bytes : List ℕ) (rest : Option (List ℕ)) (J : List (List ℕ)) (r : Report) (text : List ℕ) : Type 0 where
  pub image : List (List ℕ)
  pub sound : AreSound bytes rest image
  pub served : IsServedTo stamp scripts limit image J r text

-- a fault holds for the image, and this is its number, with its line
pub record IsFaultOf (I : List (List ℕ)) (number : ℕ) (line : List ℕ) : Type 0 where
  pub fault : MountFault
  pub reason : FaultIsTrue I fault
  pub number_is : number ≡ (mount_row fault).0
  pub line_is : line ≡ fault_line fault

-- the bytes are an image that has a fault with this number and this line
abbrev pub AreUnsound : List ℕ → Option (List ℕ) → ℕ → List ℕ → Type 0
AreUnsound bytes rest number line = (I : List (List ℕ)) × AreImageBytes bytes rest I × IsFaultOf I number line

-- the bytes are not a sound image, and this is the number of a fault that holds for them, with its line
abbrev pub AreRefused : List ℕ → Option (List ℕ) → ℕ → List ℕ → Type 0
AreRefused bytes rest number line = AreNoImage bytes rest number line ⊎ AreUnsound bytes rest number line

-- the contents of a writer before and after, if they are known
pub record Wrote : Type 0 where
  pub old : Option (List ℕ)
  pub new : Option (List ℕ)

-- the end of a run that writes the line of a refusal with this number: the fault is Refused with the number, if the whole line is written
abbrev pub IsRefusedWith : ℕ → List ℕ → Wrote → ServeFault → Type 0
IsRefusedWith number line replies (Refused n) = (n ≡ number) × Appends replies.old replies.new line
IsRefusedWith number line replies Write = (count : ℕ) × TookBytes replies.old replies.new line count
IsRefusedWith number line replies Read = ⊥
IsRefusedWith number line replies (WriteOut fault) = ⊥
IsRefusedWith number line replies NoMemory = ⊥
IsRefusedWith number line replies NoThread = ⊥
IsRefusedWith number line replies Unmatched = ⊥

-- why there is no report of a volume's list with these calls: it is not settled by them, or out of memory
abbrev pub IsReportFault : State → List Calls → ServeFault → Type 0
IsReportFault v lists Unmatched = ¬ IsSettled v.mounted v lists
IsReportFault v lists NoMemory = Unit {0}
IsReportFault v lists NoThread = ⊥
IsReportFault v lists (Refused number) = ⊥
IsReportFault v lists Read = ⊥
IsReportFault v lists Write = ⊥
IsReportFault v lists (WriteOut fault) = ⊥

-- The scripts ran on the image I, and the list of the volume that came back is not settled by their calls.
pub record IsUnmatched (stamp : List ℕ) (scripts : List Script) (I : List (List ℕ)) (limit : ℕ) : Type 0 where
  pub volume : State
  pub mounted : volume.mounted ≡ I
  pub limited : volume.limit ≡ limit
  pub lawful : IsLawful volume
  pub outcomes : List Outcome
  pub count : length outcomes ≡ length scripts
  pub each : EachOutcome I stamp (all_saw []) (length volume.entries ≡ limit) scripts outcomes
  pub wrong : IsReportFault volume (calls_in outcomes) Unmatched

-- why the sound image I is not served to the end: memory, threads, or a list that does not consist of the sessions' calls
abbrev pub IsServingFault : List ℕ → List Script → List (List ℕ) → ℕ → ServeFault → Type 0
IsServingFault stamp scripts I limit NoMemory = Unit {0}
IsServingFault stamp scripts I limit NoThread = Unit {0}
IsServingFault stamp scripts I limit Unmatched = IsUnmatched stamp scripts I limit
IsServingFault stamp scripts I limit (Refused number) = ⊥
IsServingFault stamp scripts I limit Read = ⊥
IsServingFault stamp scripts I limit Write = ⊥
IsServingFault stamp scripts I limit (WriteOut fault) = ⊥

-- the contents of an optional writer before and after
abbrev pub wrote : {W : Type 0} → (W → Option (List ℕ)) → Option W → Option W → Option Wrote
wrote contents None after = None
wrote contents (Some w) None = None
wrote contents (Some w) (Some v) = Some (record { old = contents w; new = contents v })

-- nothing was written to it, if there is one
abbrev pub IsUntouched : Option Wrote → Type 0
IsUntouched None = Unit {0}
IsUntouched (Some w) = Keeps w.old w.new

-- all these bytes were written to it, if there is one
abbrev pub GotAll : Option Wrote → List ℕ → Type 0
GotAll None bytes = Unit {0}
GotAll (Some w) bytes = Appends w.old w.new bytes

-- exactly `count` of these bytes were written to it
abbrev pub GotPart : Option Wrote → List ℕ → ℕ → Type 0
GotPart None bytes count = ⊥
GotPart (Some w) bytes count = TookBytes w.old w.new bytes count

-- The end of the writing of a text and an image. Both are written; or a first part of the text and no image; or the text, and exactly `fault.written`
-- bytes of the image.
abbrev pub EndsWriting : Report → List ℕ → List (List ℕ) → Wrote → Option Wrote → Result Report ServeFault → Type 0
EndsWriting report text J replies out (Ok r) = (r ≡ report) × Appends replies.old replies.new text × GotAll out (image_bytes J)
EndsWriting report text J replies out (Err Write) = ((count : ℕ) × TookBytes replies.old replies.new text count) × IsUntouched out
EndsWriting report text J replies out (Err (WriteOut fault)) = Appends replies.old replies.new text × GotPart out (image_bytes J) fault.written
EndsWriting report text J replies out (Err (Refused number)) = ⊥
EndsWriting report text J replies out (Err Read) = ⊥
EndsWriting report text J replies out (Err NoMemory) = ⊥
EndsWriting report text J replies out (Err NoThread) = ⊥
EndsWriting report text J replies out (Err Unmatched) = ⊥

-- The end of a run over a reader that gave `bytes` and has `rest` left, with a writer of replies, and a writer of the image if there is one. The list
-- has at most `limit` entries.
abbrev pub EndsServe : List ℕ → List Script → ℕ → List ℕ → Option (List ℕ) → Wrote → Option Wrote → Result Report ServeFault → Type 0
-- all is written
EndsServe stamp scripts limit bytes rest replies out (Ok r) =
    (J : List (List ℕ)) × (text : List ℕ) × IsRun stamp scripts limit bytes rest J r text × Appends replies.old replies.new text × GotAll out (image_bytes J)
-- the line of a refusal is written
EndsServe stamp scripts limit bytes rest replies out (Err (Refused number)) =
    (line : List ℕ) × AreRefused bytes rest number line × Appends replies.old replies.new line × IsUntouched out
-- nothing is written
EndsServe stamp scripts limit bytes rest replies out (Err Read) = IsReplyFault bytes Read × Keeps replies.old replies.new × IsUntouched out
EndsServe stamp scripts limit bytes rest replies out (Err NoMemory) = IsReplyFault bytes NoMemory × Keeps replies.old replies.new × IsUntouched out
EndsServe stamp scripts limit bytes rest replies out (Err NoThread) = Keeps replies.old replies.new × IsUntouched out
EndsServe stamp scripts limit bytes rest replies out (Err Unmatched) =
    ((I : List (List ℕ)) × AreSound bytes rest I × IsUnmatched stamp scripts I limit) × Keeps replies.old replies.new × IsUntouched out
-- a first part of the replies is written, or of the line of a refusal, and no image
EndsServe stamp scripts limit bytes rest replies out (Err Write) =
    (text : List ℕ) × (count : ℕ)
    × (((J : List (List ℕ)) × (r : Report) × IsRun stamp scripts limit bytes rest J r text) ⊎ ((number : ℕ) × AreRefused bytes rest number text))
    × TookBytes replies.old replies.new text count × IsUntouched out
-- the replies are written, and exactly `fault.written` bytes of the image
EndsServe stamp scripts limit bytes rest replies out (Err (WriteOut fault)) =
    (J : List (List ℕ)) × (r : Report) × (text : List ℕ) × IsRun stamp scripts limit bytes rest J r text
    × Appends replies.old replies.new text × GotPart out (image_bytes J) fault.written
