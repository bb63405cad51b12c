-- The exit status of the program.
use Rattle.std.specs.Prelude.{ℕ}
use Rattle.ods_shell.specs.declared.status.Status.{Status}
use Rattle.ods_shell.specs.declared.status.Status.TheVariants as status

-- the number of a status
abbrev pub status_number : Status → ℕ
status_number status.Done = 0
status_number status.Image = 1
status_number status.Words = 2
status_number status.Host = 3
status_number status.Refused = 5
status_number status.Nothing = 6
status_number status.Found = 7
