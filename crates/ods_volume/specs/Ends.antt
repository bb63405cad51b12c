-- The ends of the chains of some files, which a volume notes from one request to the next, and which of the notes a request invalidates.
use Rattle.std.specs.Prelude.{◌≡◌, ◌≢◌, ℕ, ◌<◌, Bool, true, false, not, ◌&&◌, ◌==◌, List, map, slice_get, slice_set, if◌then◌else◌, IfSome, Option, Some, None}
use Rattle.std.specs.List.{All}
use Rattle.ods_request.specs.declared.requests.Request.{Request}
use Rattle.ods_request.specs.declared.requests.Request.TheVariants.{Create, Extend, Truncate, Delete, Enter, LookUp, Remove, Read, Write, List as Lines, Stat, SetUser}
use Rattle.ods_request.specs.declared.answers.Answer.{Answer}
use Rattle.ods_request.specs.declared.answers.Answer.TheVariants.{Created}
use Rattle.ods_space.specs.Layout.{VolumeLayout}
use Rattle.ods_state.specs.declared.known_end.KnownEnd.{KnownEnd}
use Rattle.ods_state.specs.Ends.{IsKnownIn}
use Rattle.ods_volume.specs.declared.ends.Falls.{Falls}
use Rattle.ods_volume.specs.declared.ends.Falls.TheVariants.{Nothing, File, Growth, Everything}

-- each note is true of these blocks
abbrev pub AreKnownIn : List (List ℕ) → VolumeLayout → List (Option KnownEnd) → Type 0
AreKnownIn I L ends = All (IsKnownIn I L) ends

-- there is no note of this file
abbrev pub IsNotOf : ℕ → Option KnownEnd → Type 0
IsNotOf file noted = IfSome noted (λ end. end.file ≢ file)

-- The note of this file stays. If the chain of one file changes, INDEXF.SYS may grow too.
abbrev pub stays : Falls → ℕ → Bool
stays Nothing file = true
stays (File n) file = not (file == n) && not (file == 1)
stays (Growth n) file = not (file == n) && not (file == 1)
stays Everything file = false

-- what is left of a note
abbrev pub kept_by : Falls → Option KnownEnd → Option KnownEnd
kept_by falls None = None
kept_by falls (Some end) = if stays falls end.file then Some end else None

-- The notes that a request with this answer invalidates. An Enter may add a block to its directory.
abbrev pub falls_for : Request → Answer → Falls
falls_for (Create name version blocks stamp) (Created file) = File file.number
falls_for (Create name version blocks stamp) answer = Everything
falls_for (Extend file blocks) answer = File file.number
falls_for (Truncate file blocks) answer = File file.number
falls_for (Delete file) answer = File file.number
falls_for (Enter dir name version file) answer = Growth dir.number
falls_for (LookUp dir name pick) answer = Nothing
falls_for (Remove dir name pick) answer = Nothing
falls_for (Read file vbn) answer = Nothing
falls_for (Write file vbn block) answer = Nothing
falls_for (Lines dir) answer = Nothing
falls_for (Stat file) answer = Nothing
falls_for (SetUser file attributes) answer = Nothing

-- One end more is noted: it replaces another only if no slot is empty.
pub record IsOneMore (old : List (Option KnownEnd)) (end : KnownEnd) (new : List (Option KnownEnd)) : Type 0 where
  pub place : ℕ
  pub within : place < 8
  pub noted : new ≡ slice_set old place (Some end)
  pub fell : (i : ℕ) → slice_get old i ≡ Some None → slice_get old place ≡ Some None

-- the notes after a change, with the end of the chain of its file if known
abbrev pub AreNotedThen : List (Option KnownEnd) → Falls → Option KnownEnd → List (Option KnownEnd) → Type 0
AreNotedThen old falls None new = new ≡ map (kept_by falls) old
AreNotedThen old falls (Some end) new = IsOneMore (map (kept_by falls) old) end new
