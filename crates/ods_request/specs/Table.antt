-- The facts about each kind of request, in one table. A new request is one more row.
use Rattle.std.specs.Prelude.{ℕ, Bool, true, false, not, ◌&&◌, is_none, if◌then◌else◌, Option, Some, None}
use Rattle.ods_base.specs.declared.file_id.FileId.{FileId}
use Rattle.ods_request.specs.declared.requests.Request.{Request}
use Rattle.ods_request.specs.declared.requests.Request.TheVariants.{Create, Extend, Truncate, Delete, Enter, LookUp, Remove, Read, Write, List as Lines, Stat, SetUser}
use Rattle.ods_request.specs.declared.answers.Answer.{Answer}
use Rattle.ods_request.specs.Steps.{created_id}

-- the facts about a request
pub record Row : Type 0 where
  -- it creates a file
  pub makes : Bool
  -- the existing file that it changes
  pub changed : Option FileId
  -- the version that it specifies
  pub version : Option ℕ
  -- it may allocate or free blocks and file numbers
  pub moves : Bool
  -- it may be refused with out of memory
  pub memory : Bool

-- the table
abbrev pub row_of : Request → Row
row_of (Create name version blocks stamp) = record { makes = true; changed = None; version = Some version; moves = true; memory = true }
row_of (Extend file blocks) = record { makes = false; changed = Some file; version = None; moves = true; memory = true }
row_of (Truncate file blocks) = record { makes = false; changed = Some file; version = None; moves = true; memory = true }
row_of (Delete file) = record { makes = false; changed = Some file; version = None; moves = true; memory = true }
row_of (Enter dir name version file) = record { makes = false; changed = Some dir; version = version; moves = true; memory = true }
row_of (LookUp dir name pick) = record { makes = false; changed = None; version = None; moves = false; memory = false }
row_of (Remove dir name pick) = record { makes = false; changed = Some dir; version = None; moves = false; memory = true }
row_of (Read file vbn) = record { makes = false; changed = None; version = None; moves = false; memory = false }
row_of (Write file vbn block) = record { makes = false; changed = Some file; version = None; moves = false; memory = true }
row_of (Lines dir) = record { makes = false; changed = None; version = None; moves = false; memory = true }
row_of (Stat file) = record { makes = false; changed = None; version = None; moves = false; memory = false }
row_of (SetUser file attributes) = record { makes = false; changed = Some file; version = None; moves = false; memory = true }

-- the request creates a file
abbrev pub creates : Request → Bool
creates r = (row_of r).makes

-- the requests that change nothing
abbrev pub only_looks : Request → Bool
only_looks r = not (creates r) && is_none (row_of r).changed

-- the requests that may allocate or free blocks
abbrev pub moves_blocks : Request → Bool
moves_blocks r = (row_of r).moves

-- the requests that may be refused with out of memory
abbrev pub takes_memory : Request → Bool
takes_memory r = (row_of r).memory

-- the file that a step may change: the file that the request names first, or the created file
abbrev pub changed_file : Request → Answer → Option FileId
changed_file r a = if creates r then created_id a else (row_of r).changed

-- the version under which a file is created or entered, if the request specifies one
abbrev pub given_version : Request → Option ℕ
given_version r = (row_of r).version
