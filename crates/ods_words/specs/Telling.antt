-- The faults that errors of clap turn into.
use Rattle.std.specs.Prelude.{◌≡◌, ◌≢◌, ℕ, Bool, true, false, List}
use Rattle.std.specs.String.{string_bytes}
use Rattle.clap.specs.declared.error.kind.ErrorKind.{ErrorKind}
use Rattle.clap.specs.declared.error.kind.ErrorKind.TheVariants as kind
use Rattle.ods_words.specs.declared.fault.WordsFault.{WordsFault}
use Rattle.ods_words.specs.declared.fault.WordsFault.TheVariants.{Help, Wrong, NoMemory}

-- the help or the version was requested
abbrev pub is_asked : ErrorKind → Bool
is_asked kind.DisplayHelp = true
is_asked kind.DisplayVersion = true
is_asked k = false

-- Help if the help or the version was requested, NoMemory if clap was out of memory, and otherwise a line that reports the error
abbrev pub IsToldOf : ErrorKind → WordsFault → Type 0
IsToldOf k (Help text) = is_asked k ≡ true
IsToldOf k (Wrong line) = (is_asked k ≡ false) × (k ≢ kind.OutOfMemory)
IsToldOf k NoMemory = k ≡ kind.OutOfMemory

-- the command line is not valid, and this line reports it
abbrev pub IsWrong : List ℕ → WordsFault → Type 0
IsWrong line (Help text) = ⊥
IsWrong line (Wrong text) = string_bytes text ≡ line
IsWrong line NoMemory = ⊥
