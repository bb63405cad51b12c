-- The effect of a draft on a disk for a request: the step, with the blocks that INDEXF.SYS gains for it.
use Rattle.std.specs.Prelude.{ℕ, List, [], Option}
use Rattle.ods_base.specs.declared.file_id.Uic.{Uic}
use Rattle.ods_space.specs.Draft.{Changes, applied}
use Rattle.ods_space.specs.Layout.{with_places}
use Rattle.ods_space.specs.declared.disk.Disk.{Disk}
use Rattle.ods_space.specs.Disks.{on}
use Rattle.ods_request.specs.declared.requests.Request.{Request}
use Rattle.ods_request.specs.declared.answers.Answer.{Answer}
use Rattle.ods_state.specs.declared.known_end.KnownEnd.{KnownEnd}
use Rattle.ods_state.specs.Ends.{IsKnownIn}
use Rattle.ods_state.specs.Served.{IsStepOf}

-- the draft carries out the request with this answer on this disk, and INDEXF.SYS gains these blocks after its own
abbrev pub IsDraftFor : Disk → Uic → Request → Answer → Changes → List ℕ → Type 0
IsDraftFor D who r a draft places = IsStepOf D.image.now D.layout.now who r a (applied D.image.now draft) (with_places D.layout.now places)

-- the note of the end of a file's chain is true of the disk after the draft, with these blocks for INDEXF.SYS
abbrev pub IsKnownThen : Disk → Changes → List ℕ → Option KnownEnd → Type 0
IsKnownThen D draft places end = IsKnownIn (applied D.image.now draft) (with_places D.layout.now places) end

-- Each note of the end of a file's chain stays true of the disk after the draft. INDEXF.SYS gains no block.
abbrev pub KeepsEnds : Disk → Changes → Type 0
KeepsEnds D draft = (end : Option KnownEnd) → on IsKnownIn D end → IsKnownThen D draft [] end
