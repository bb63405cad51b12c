-- Why a step is not made.
use Rattle.std.specs.Prelude.{◌≡◌, Bool, true, false, None, Some}
use Rattle.ods_base.specs.declared.file_id.FileId.{FileId}
use Rattle.ods_base.specs.declared.file_id.Uic.{Uic}
use Rattle.ods_request.specs.declared.requests.Request.{Request}
use Rattle.ods_request.specs.declared.requests.Request.TheVariants.{Create, Extend, Truncate, Delete, Enter, LookUp, Remove, Read, Write, List as Lines, Stat, SetUser}
use Rattle.ods_request.specs.Catalogue.{Catalogue}
use Rattle.ods_request.specs.Faults.{fault_of}
use Rattle.ods_request.specs.Steps.{is_new}
use Rattle.ods_request.specs.Table.{creates}
use Rattle.ods_plain.specs.declared.steps.StepError.{StepError}
use Rattle.ods_plain.specs.declared.steps.StepError.TheVariants.{Refused, NotNew, NoMemory}

-- The requests for which the plain program may run out of memory: a body or a list grows, or an answer has a list. A count of Stat may not fit.
abbrev pub may_lack_room : Request → Bool
may_lack_room (Create name version blocks stamp) = true
may_lack_room (Extend file blocks) = true
may_lack_room (Truncate file blocks) = false
may_lack_room (Delete file) = false
may_lack_room (Enter dir name version file) = true
may_lack_room (LookUp dir name pick) = false
may_lack_room (Remove dir name pick) = false
may_lack_room (Read file vbn) = false
may_lack_room (Write file vbn block) = false
may_lack_room (Lines dir) = true
may_lack_room (Stat file) = true
may_lack_room (SetUser file attributes) = false

-- Why no step is made: the first refusal. Otherwise an ID that a new file may not have, or out of memory.
abbrev pub IsStepError : Catalogue → Uic → Request → FileId → StepError → Type 0
IsStepError C who r id (Refused refusal) = fault_of C who r ≡ Some refusal
IsStepError C who r id NotNew = (fault_of C who r ≡ None) × (creates r ≡ true) × (is_new C id ≡ false)
IsStepError C who r id NoMemory = (fault_of C who r ≡ None) × (may_lack_room r ≡ true) × (creates r ≡ true → is_new C id ≡ true)
