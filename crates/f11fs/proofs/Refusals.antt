-- What is refused ends with the status of a refusal.
use Rattle.std.proofs.Common.{◌≡◌, ◌⊎◌, ◌∙◌, ℕ, List, Bor, true, ap, subst, sym, inl, inr, Result, Ok, Err, IfOk}
use Rattle.ods_records.specs.declared.faults.TextFault.{TextFault}
use Rattle.ods_records.specs.declared.faults.TextFault.TheVariants as text
use Rattle.ods_request.specs.declared.refusals.Refusal.{Refusal}
use Rattle.ods_request.specs.declared.refusals.Refusal.TheVariants as refusal
use Rattle.ods_shell.specs.Found.{HasPathStatus}
use Rattle.ods_shell.specs.declared.path_fault.PathFault.{PathFault}
use Rattle.ods_shell.specs.declared.path_fault.PathFault.TheVariants as path
use Rattle.ods_shell.specs.declared.status.Status.{Status}
use Rattle.ods_upkeep.specs.Pieces.{HasStatus}
use Rattle.ods_upkeep.specs.PutFor.{HasPutStatus}
use Rattle.ods_upkeep.specs.declared.failure.Why.{Why}
use Rattle.ods_upkeep.specs.declared.failure.Why.TheVariants as why
use Rattle.ods_upkeep.specs.declared.put_fault.PutFault.{PutFault}
use Rattle.ods_upkeep.specs.declared.put_fault.PutFault.TheVariants as put
use Rattle.fs_reads.specs.Ends.{EndsWith, HasWordStatus, StopsWith}
use Rattle.fs_reads.specs.declared.stop.Stop.{Stop}
use Rattle.fs_reads.specs.declared.stop.Stop.TheVariants as stop
use Rattle.fs_reads.specs.declared.stop.WordFault.{WordFault}
use Rattle.fs_reads.specs.declared.stop.WordFault.TheVariants as word
use Rattle.f11fs.specs.Changed.{IsRefusal, is_refused}
use Rattle.f11fs.specs.Readings.{IsTooLarge, IsUnread}

path_refused : (fault : PathFault) (s : Status) → HasPathStatus fault s → is_refused s ≡ true
path_refused (path.Bad bad) s e = ap is_refused e
path_refused path.NoName s e = ap is_refused e
path_refused path.NoVersion s e = ap is_refused e
path_refused path.IsId s e = ap is_refused e
path_refused path.Nothing s e = ap is_refused e
path_refused path.NoSuchFile s e = ap is_refused e
path_refused path.NoMemory s e = ap is_refused e

word_refused : (fault : WordFault) (s : Status) → HasWordStatus fault s → is_refused s ≡ true
word_refused word.NoFolder s e = ap is_refused e
word_refused word.OneDirectory s e = ap is_refused e
word_refused word.NoText s e = ap is_refused e
word_refused (word.ManyBytes most) s e = ap is_refused e
word_refused word.NoLabel s e = ap is_refused e
word_refused (word.OtherBlocks count) s e = ap is_refused e
word_refused word.NoPath s e = ap is_refused e
word_refused word.Short s e = ap is_refused e
word_refused word.Lacking s e = ap is_refused e
word_refused (word.OtherSize size) s e = ap is_refused e
word_refused (word.Large size room) s e = ap is_refused e
word_refused (word.LargeStream room) s e = ap is_refused e
word_refused (word.Unread fault) s e = ap is_refused e
word_refused word.Folder s e = ap is_refused e
word_refused word.NoDate s e = ap is_refused e
word_refused word.OwnOutput s e = ap is_refused e
word_refused word.NotEmpty s e = ap is_refused e
word_refused (word.Unmade fault) s e = ap is_refused e
word_refused (word.Unsaved fault) s e = ap is_refused e

request_refused : (r : Refusal) (s : Status) → HasStatus (why.Request r) s → is_refused s ≡ true
request_refused refusal.NoSuchName s e = ap is_refused e
request_refused refusal.NameTaken s e = ap is_refused e
request_refused refusal.VersionsFull s e = ap is_refused e
request_refused refusal.NoSuchFile s e = ap is_refused e
request_refused refusal.Reserved s e = ap is_refused e
request_refused refusal.NotADirectory s e = ap is_refused e
request_refused refusal.IsDirectory s e = ap is_refused e
request_refused refusal.BadCount s e = ap is_refused e
request_refused refusal.Denied s e = ap is_refused e
request_refused refusal.NoSuchBlock s e = ap is_refused e
request_refused refusal.NotEmpty s e = ap is_refused e
request_refused refusal.ListFull s e = ap is_refused e
request_refused refusal.VolumeFull s e = ap is_refused e
request_refused refusal.HeadersFull s e = ap is_refused e
request_refused refusal.ChainFull s e = ap is_refused e
request_refused refusal.NoMemory s e = ap is_refused e

text_refused : (fault : TextFault) (s : Status) → HasStatus (why.Text fault) s → is_refused s ≡ true
text_refused (text.LineTooLong line) s e = ap is_refused e
text_refused text.NoMemory s e = ap is_refused e

put_refused : (fault : PutFault) (s : Status) → HasPutStatus fault s → is_refused s ≡ true
put_refused (put.NoRecords fault) s e = ap is_refused e
put_refused (put.LongRecord longest size) s e = ap is_refused e
put_refused (put.Untyped character) s e = ap is_refused e
put_refused (put.NoRun longest blocks) s e = ap is_refused e
put_refused put.NoEnd s e = ap is_refused e
put_refused (put.OtherKind kind) s e = ap is_refused e
put_refused put.PastBlocks s e = ap is_refused e

why_refused : (w : Why) (s : Status) → HasStatus w s → is_refused s ≡ true
why_refused (why.Path fault) s e = path_refused fault s e
why_refused (why.Request r) s e = request_refused r s e
why_refused (why.Text fault) s e = text_refused fault s e
why_refused (why.Put fault) s e = put_refused fault s e
why_refused why.BadName s e = ap is_refused e
why_refused why.IsId s e = ap is_refused e
why_refused why.Several s e = ap is_refused e
why_refused why.Versioned s e = ap is_refused e
why_refused why.IsDirectory s e = ap is_refused e
why_refused why.DirectoryType s e = ap is_refused e
why_refused why.DirectoryThere s e = ap is_refused e
why_refused why.IntoItself s e = ap is_refused e
why_refused why.IsNamed s e = ap is_refused e
why_refused why.PastEnd s e = ap is_refused e
why_refused why.Hidden s e = ap is_refused e

by_status : (end : Stop) (s : Status) → is_refused s ≡ true → StopsWith end s → IsRefusal end
by_status (stop.Lines lines own) s refused e = ap is_refused (sym e) ∙ refused
by_status (stop.Path word fault) s refused e = tt
by_status (stop.Word word fault) s refused e = tt
by_status (stop.Image word fault) s refused e = tt
by_status (stop.Closed number user) s refused e = tt
by_status (stop.Unwritten fault) s refused e = tt
by_status (stop.SavedUnwritten fault) s refused e = tt
by_status stop.NoTime s refused e = tt
by_status stop.NoMemory s refused e = tt

-- the end of a command with the status of its failure, or for want of memory
pub is_refusal : (w : Why) (s : Status) (end : Stop) → HasStatus w s → StopsWith end s ⊎ (end ≡ stop.NoMemory) → IsRefusal end
is_refusal w s end has (inl e) = by_status end s (why_refused w s has) e
is_refusal w s end has (inr e) = subst (λ x. IsRefusal x) (sym e) tt

-- the status of a command that ends so
pub refused_status : (end : Stop) (s : Status) → IsRefusal end → EndsWith (Err end) s → is_refused s ≡ true
refused_status (stop.Lines lines own) s refusal e = ap is_refused e ∙ refusal
refused_status (stop.Path word fault) s refusal e = path_refused fault s e
refused_status (stop.Word word fault) s refusal e = word_refused fault s e
refused_status (stop.Image word fault) s refusal e = ap is_refused e
refused_status (stop.Closed number user) s refusal e = ap is_refused e
refused_status (stop.Unwritten fault) s refusal e = ap is_refused e
refused_status (stop.SavedUnwritten fault) s refusal e = ap is_refused e
refused_status stop.NoTime s refusal e = ap is_refused e
refused_status stop.NoMemory s refusal e = ap is_refused e

-- a host file that is not read is refused, and one that is too large
pub unread_refusal : (path : Bor (List ℕ)) (room : ℕ) (end : Stop) → IsTooLarge path room end ⊎ IsUnread path end → IsRefusal end
unread_refusal path room end (inl (inl large)) = subst (λ x. IsRefusal x) (sym large.1) tt
unread_refusal path room end (inl (inr large)) = subst (λ x. IsRefusal x) (sym large) tt
unread_refusal path room end (inr unread) = subst (λ x. IsRefusal x) (sym unread.1) tt

-- a command ends as it was run, or for the reason for which it stopped
pub ended : {W A : Type 0} (Ran : W → A → Status → Type 0) (words : W) (asked : A) (done : Result Status Stop) (s : Status) → IfOk done (λ ends. Ran words asked ends) → EndsWith done s
    → Ran words asked s ⊎ ((end : Stop) × StopsWith end s)
ended Ran words asked (Ok ends) s ran is = inl (subst (λ e. Ran words asked e) (sym is) ran)
ended Ran words asked (Err end) s ran is = inr (end, is)
