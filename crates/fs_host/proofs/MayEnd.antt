-- What may end a function may end its caller.
use Rattle.std.specs.Prelude.{◌≡◌, ◌≢◌, ℤ, pos, negsuc, ◌==◌, ◌||◌, ◌&&◌, Bool, true, false, not, Option, Some, None, Result, Ok, Err, IfErr, unwrap_or, if◌then◌else◌}
use Rattle.std.specs.IoError.{error_kind, raw_os_error}
use Rattle.std.specs.declared.io.Error.{Error}
use Rattle.std.specs.declared.io.ErrorKind.{ErrorKind}
use Rattle.std.specs.declared.io.ErrorKind.TheVariants.{NotFound, PermissionDenied, ConnectionRefused, ConnectionReset, HostUnreachable, NetworkUnreachable, ConnectionAborted, NotConnected, AddrInUse, AddrNotAvailable, NetworkDown, BrokenPipe, AlreadyExists, WouldBlock, NotADirectory, IsADirectory, DirectoryNotEmpty, ReadOnlyFilesystem, FilesystemLoop, StaleNetworkFileHandle, InvalidInput, InvalidData, TimedOut, WriteZero, StorageFull, NotSeekable, QuotaExceeded, FileTooLarge, ResourceBusy, ExecutableFileBusy, Deadlock, CrossesDevices, TooManyLinks, InvalidFilename, ArgumentListTooLong, Interrupted, UnexpectedEof, OutOfMemory, InProgress, Other, Uncategorized}
use Rattle.std.specs.declared.io.ErrorKind.TheVariants.{Unsupported as KindUnsupported}
use Rattle.std.proofs.Common.{refl, sym, ap, ◌∙◌, arith}
use Rattle.fs_host.specs.declared.host_fault.HostFault.{HostFault}
use Rattle.fs_host.specs.declared.host_fault.HostFault.TheVariants.{Device, Closed, TooManyOpen, Failed, IsThere, Denied, Unsupported, Held, Changed, NoMemory}
use Rattle.fs_host.specs.Reasons.{reason_of, reason_of_kind, reason_of_number}
use Rattle.fs_host.specs.Faults.{is_reason, is_reason_but_there, is_reason_but_denied, is_reason_but_unsupported, may_end_path, may_end_beginning, may_end_naming, may_end_finish, may_refuse_name, may_end_opening, may_end_asking, may_end_locking, may_end_keeping, may_end_filling, may_end_giving, may_end_leaving, may_end_saving, may_end_storing, may_end_writing, may_end_copying}
use Rattle.fs_host.specs.Stopped.{fault_told}
use Rattle.fs_saving.specs.Saving.{MayCome}
use Rattle.fs_saving.specs.declared.unsaved.Unsaved.{Unsaved}
use Rattle.fs_saving.specs.declared.unsaved.Unsaved.TheVariants as unsaved
use Rattle.fs_host.specs.declared.faults.SaveFault.{SaveFault}
use Rattle.fs_host.specs.declared.faults.SaveFault.TheVariants.{Changed as ImageChanged, NoMemory as ImageNoMemory}

-- what one of four numbers says is a reason, and so is any other number
number_given : (five nine many : Bool) (n : ℤ) → is_reason (if five then Device else (if nine then Closed else (if many then TooManyOpen else Failed n))) ≡ true
number_given true nine many n = refl
number_given false true many n = refl
number_given false false true n = refl
number_given false false false n = refl

number_is_reason : (number : Option ℤ) → is_reason (reason_of_number number) ≡ true
number_is_reason None = refl
number_is_reason (Some (negsuc n)) = refl
number_is_reason (Some (pos n)) = number_given (n == 5) (n == 9) (n == 23 || n == 24) (pos n)

-- the reason that a kind tells is one, and so is the other one where it tells none
kind_is_reason : (kind : ErrorKind) (other : HostFault) → is_reason other ≡ true → is_reason (unwrap_or (reason_of_kind kind) other) ≡ true
kind_is_reason NotFound other h = refl
kind_is_reason PermissionDenied other h = refl
kind_is_reason ConnectionRefused other h = h
kind_is_reason ConnectionReset other h = h
kind_is_reason HostUnreachable other h = h
kind_is_reason NetworkUnreachable other h = h
kind_is_reason ConnectionAborted other h = h
kind_is_reason NotConnected other h = h
kind_is_reason AddrInUse other h = h
kind_is_reason AddrNotAvailable other h = h
kind_is_reason NetworkDown other h = h
kind_is_reason BrokenPipe other h = refl
kind_is_reason AlreadyExists other h = refl
kind_is_reason WouldBlock other h = h
kind_is_reason NotADirectory other h = refl
kind_is_reason IsADirectory other h = refl
kind_is_reason DirectoryNotEmpty other h = h
kind_is_reason ReadOnlyFilesystem other h = refl
kind_is_reason FilesystemLoop other h = refl
kind_is_reason StaleNetworkFileHandle other h = h
kind_is_reason InvalidInput other h = h
kind_is_reason InvalidData other h = h
kind_is_reason TimedOut other h = h
kind_is_reason WriteZero other h = h
kind_is_reason StorageFull other h = refl
kind_is_reason NotSeekable other h = h
kind_is_reason QuotaExceeded other h = refl
kind_is_reason FileTooLarge other h = refl
kind_is_reason ResourceBusy other h = refl
kind_is_reason ExecutableFileBusy other h = refl
kind_is_reason Deadlock other h = h
kind_is_reason CrossesDevices other h = h
kind_is_reason TooManyLinks other h = h
kind_is_reason InvalidFilename other h = refl
kind_is_reason ArgumentListTooLong other h = h
kind_is_reason Interrupted other h = h
kind_is_reason KindUnsupported other h = refl
kind_is_reason UnexpectedEof other h = h
kind_is_reason OutOfMemory other h = refl
kind_is_reason InProgress other h = h
kind_is_reason Other other h = h
kind_is_reason Uncategorized other h = h

-- the reason of an error is a reason
pub error_given : (error : Error) → is_reason (reason_of error) ≡ true
error_given error = kind_is_reason (error_kind error) (reason_of_number (raw_os_error error)) (number_is_reason (raw_os_error error))

pub reason_given : (error : Error) (fault : HostFault) → fault ≡ reason_of error → is_reason fault ≡ true
reason_given error fault e = ap is_reason e ∙ error_given error

pub memory_given : (fault : HostFault) → fault ≡ NoMemory → is_reason fault ≡ true
memory_given fault e = ap is_reason e

-- a reason that is not one of those that the function tells by itself
but_there : (fault : HostFault) → is_reason fault ≡ true → fault ≢ IsThere → is_reason_but_there fault ≡ true
but_there fault h other = grind arith

pub error_but_there : (error : Error) (fault : HostFault) → fault ≡ reason_of error → fault ≢ IsThere → is_reason_but_there fault ≡ true
error_but_there error fault e other = but_there fault (reason_given error fault e) other

but_denied : (fault : HostFault) → is_reason fault ≡ true → fault ≢ Denied → is_reason_but_denied fault ≡ true
but_denied fault h other = grind arith

pub error_but_denied : (error : Error) (fault : HostFault) → fault ≡ reason_of error → fault ≢ Denied → is_reason_but_denied fault ≡ true
error_but_denied error fault e other = but_denied fault (reason_given error fault e) other

but_unsupported : (fault : HostFault) → is_reason fault ≡ true → fault ≢ Unsupported → is_reason_but_unsupported fault ≡ true
but_unsupported fault h other = grind arith

pub error_but_unsupported : (error : Error) (fault : HostFault) → fault ≡ reason_of error → fault ≢ Unsupported → is_reason_but_unsupported fault ≡ true
error_but_unsupported error fault e other = but_unsupported fault (reason_given error fault e) other

pub written_but_denied : (writes : Bool) (error : Error) (fault : HostFault) → writes ≡ true → fault ≡ reason_of error → fault ≢ Denied → (writes && is_reason_but_denied fault) ≡ true
written_but_denied true error fault w e other = error_but_denied error fault e other
written_but_denied false error fault w e other = absurd (cc)

-- a reason may end each of these
pub reason_ends_path : (fault : HostFault) → is_reason fault ≡ true → may_end_path fault ≡ true
reason_ends_path fault h = grind arith

pub error_ends_path : (error : Error) (fault : HostFault) → fault ≡ reason_of error → may_end_path fault ≡ true
error_ends_path error fault e = reason_ends_path fault (reason_given error fault e)

pub reason_ends_beginning : (fault : HostFault) → is_reason fault ≡ true → may_end_beginning fault ≡ true
reason_ends_beginning fault h = grind arith

pub error_ends_beginning : (error : Error) (fault : HostFault) → fault ≡ reason_of error → may_end_beginning fault ≡ true
error_ends_beginning error fault e = reason_ends_beginning fault (reason_given error fault e)

pub reason_ends_naming : (fault : HostFault) → is_reason fault ≡ true → may_end_naming fault ≡ true
reason_ends_naming fault h = grind arith

pub error_ends_naming : (error : Error) (fault : HostFault) → fault ≡ reason_of error → may_end_naming fault ≡ true
error_ends_naming error fault e = reason_ends_naming fault (reason_given error fault e)

pub memory_ends_path : (fault : HostFault) → fault ≡ NoMemory → may_end_path fault ≡ true
memory_ends_path fault e = ap may_end_path e

pub memory_ends_beginning : (fault : HostFault) → fault ≡ NoMemory → may_end_beginning fault ≡ true
memory_ends_beginning fault e = ap may_end_beginning e

pub held_ends_beginning : (fault : HostFault) → fault ≡ Held → may_end_beginning fault ≡ true
held_ends_beginning fault e = ap may_end_beginning e

pub changed_ends_naming : (fault : HostFault) → fault ≡ Changed → may_end_naming fault ≡ true
changed_ends_naming fault e = ap may_end_naming e

-- what ends a part ends the whole
pub there_ends_beginning : (fault : HostFault) → is_reason_but_there fault ≡ true → may_end_beginning fault ≡ true
there_ends_beginning fault h = grind arith

pub path_ends_beginning : (fault : HostFault) → may_end_path fault ≡ true → may_end_beginning fault ≡ true
path_ends_beginning fault h = grind arith

pub reasons_end_naming : {A : Type 0} (r : Result A HostFault) → IfErr r (λ fault. is_reason fault ≡ true) → IfErr r (λ fault. may_end_naming fault ≡ true)
reasons_end_naming (Ok x) h = tt
reasons_end_naming (Err fault) h = reason_ends_naming fault h

pub naming_ends_finish : (replaces : Bool) (fault : HostFault) → may_end_naming fault ≡ true → may_end_finish replaces fault ≡ true
naming_ends_finish replaces fault h = grind arith

pub naming_refused : (fault : HostFault) → may_end_naming fault ≡ true → fault ≢ IsThere → may_refuse_name fault ≡ true
naming_refused fault h there = grind arith

pub is_not : (b : Bool) → b ≡ false → not b ≡ true
is_not b e = ap not e

-- the same of an image
pub changed_ends_asking : (force : Bool) (fault : SaveFault) → fault ≡ ImageChanged → may_end_asking force fault ≡ true
changed_ends_asking force fault e = ap (may_end_asking force) e

pub changed_ends_keeping : (fault : SaveFault) → fault ≡ ImageChanged → may_end_keeping fault ≡ true
changed_ends_keeping fault e = ap may_end_keeping e

pub opening_ends_locking : (writes force : Bool) (fault : SaveFault) → may_end_opening writes fault ≡ true → may_end_locking writes force fault ≡ true
opening_ends_locking writes force fault h = grind arith

pub asking_ends_locking : (writes force : Bool) (fault : SaveFault) → may_end_asking (force || not writes) fault ≡ true → may_end_locking writes force fault ≡ true
asking_ends_locking writes force fault h = grind arith

pub asking_ends_leaving : (force backup : Bool) (fault : SaveFault) → may_end_asking force fault ≡ true → may_end_leaving force backup fault ≡ true
asking_ends_leaving force backup fault h = grind arith

pub keeping_ends_leaving : (force backup : Bool) (fault : SaveFault) → may_end_keeping fault ≡ true → backup ≡ true → may_end_leaving force backup fault ≡ true
keeping_ends_leaving force backup fault h b = grind arith

pub memory_ends_leaving : (force backup : Bool) (fault : SaveFault) → fault ≡ ImageNoMemory → backup ≡ true → may_end_leaving force backup fault ≡ true
memory_ends_leaving force backup fault e b = ap (may_end_leaving force backup) e ∙ b

pub changed_ends_leaving : (force backup : Bool) (fault : SaveFault) → fault ≡ ImageChanged → may_end_leaving force backup fault ≡ true
changed_ends_leaving force backup fault e = ap (may_end_leaving force backup) e

pub leaving_ends_saving : (force backup break_links : Bool) (fault : SaveFault) → may_end_leaving force backup fault ≡ true → may_end_saving force backup break_links fault ≡ true
leaving_ends_saving force backup break_links fault h = grind arith

pub giving_ends_saving : (force backup break_links : Bool) (fault : SaveFault) → may_end_giving fault ≡ true → may_end_saving force backup break_links fault ≡ true
giving_ends_saving force backup break_links fault h = grind arith

pub filling_ends_saving : (force backup break_links : Bool) (fault : SaveFault) → may_end_filling fault ≡ true → may_end_saving force backup break_links fault ≡ true
filling_ends_saving force backup break_links fault h = grind arith

pub changed_ends_saving : (force backup break_links : Bool) (fault : SaveFault) → fault ≡ ImageChanged → may_end_saving force backup break_links fault ≡ true
changed_ends_saving force backup break_links fault e = ap (may_end_saving force backup break_links) e

pub memory_ends_saving : (force backup break_links : Bool) (fault : SaveFault) → fault ≡ ImageNoMemory → may_end_saving force backup break_links fault ≡ true
memory_ends_saving force backup break_links fault e = ap (may_end_saving force backup break_links) e

pub filling_ends_writing : (fault : SaveFault) → may_end_filling fault ≡ true → may_end_writing fault ≡ true
filling_ends_writing fault h = grind arith

-- what may end a saving without counting names may end one that counts them
links_aside : (force backup break_links : Bool) (fault : SaveFault) → may_end_saving force backup true fault ≡ true → may_end_saving force backup break_links fault ≡ true
links_aside force backup break_links fault h = grind arith

-- what stops a saving ends it
pub stopped_ends_saving : (force backup break_links : Bool) (end : Unsaved SaveFault) (fault : SaveFault) → MayCome (λ f. may_end_saving force backup true f ≡ true) end → fault ≡ fault_told end
    → may_end_saving force backup break_links fault ≡ true
stopped_ends_saving force backup break_links (unsaved.Make f) fault h e = ap (may_end_saving force backup break_links) e ∙ links_aside force backup break_links f h
stopped_ends_saving force backup break_links (unsaved.Write f) fault h e = ap (may_end_saving force backup break_links) e ∙ links_aside force backup break_links f h
stopped_ends_saving force backup break_links unsaved.Differs fault h e = ap (may_end_saving force backup break_links) e
stopped_ends_saving force backup break_links (unsaved.Rename f) fault h e = ap (may_end_saving force backup break_links) e ∙ links_aside force backup break_links f h

pub stopped_ends_writing : (end : Unsaved SaveFault) (fault : SaveFault) → MayCome (λ f. may_end_writing f ≡ true) end → fault ≡ fault_told end → may_end_writing fault ≡ true
stopped_ends_writing (unsaved.Make f) fault h e = ap may_end_writing e ∙ h
stopped_ends_writing (unsaved.Write f) fault h e = ap may_end_writing e ∙ h
stopped_ends_writing unsaved.Differs fault h e = ap may_end_writing e
stopped_ends_writing (unsaved.Rename f) fault h e = ap may_end_writing e ∙ h

-- what ends a saving, or a writing, ends it for a floppy too
pub saving_ends_storing : (floppy force backup break_links : Bool) (fault : SaveFault) → may_end_saving force backup break_links fault ≡ true → may_end_storing floppy force backup break_links fault ≡ true
saving_ends_storing floppy force backup break_links fault h = grind arith

pub memory_ends_storing : (floppy force backup break_links : Bool) (fault : SaveFault) → fault ≡ ImageNoMemory → may_end_storing floppy force backup break_links fault ≡ true
memory_ends_storing floppy force backup break_links fault e = ap (may_end_storing floppy force backup break_links) e

pub writing_ends_copying : (floppy : Bool) (fault : SaveFault) → may_end_writing fault ≡ true → may_end_copying floppy fault ≡ true
writing_ends_copying floppy fault h = grind arith
