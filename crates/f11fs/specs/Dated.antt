-- The times of new files.
use Rattle.std.specs.Prelude.{◌≡◌, ◌⊎◌, ℕ, Bool, true, false, List}
use Rattle.fs_host.specs.Times.{IsStampAt}
use Rattle.fs_words.specs.declared.actions.PutWords.{PutWords}

-- The time of a file whose archive member, or whose host file, was changed at this second: the specified time; otherwise the local time, or the time
-- of the run if there is no such local time.
abbrev pub IsTimeOf : Bool → List ℕ → ℕ → List ℕ → Type 0
IsTimeOf true run second stamp = stamp ≡ run
IsTimeOf false run second stamp = (stamp ≡ run) ⊎ IsStampAt second stamp

-- whether new files get the times of their host files: this is requested, and no time is specified
abbrev pub takes_times : PutWords → Bool → Bool
takes_times how true = false
takes_times how false = how.dated

-- The time of a file that is put from a host file: the time of the run; or, if requested, the local time at some second, which the host gives.
abbrev pub IsHostTime : Bool → List ℕ → List ℕ → Type 0
IsHostTime true run stamp = stamp ≡ run
IsHostTime false run stamp = (stamp ≡ run) ⊎ ((second : ℕ) × IsStampAt second stamp)
