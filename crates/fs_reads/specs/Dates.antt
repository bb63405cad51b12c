-- The modification time that a file of the host receives.
use Rattle.std.specs.Prelude.{◌≡◌, ℕ, Bool, true, false, List, Option, Some, None}
use Rattle.fs_host.specs.Dates.{IsSecondAt}
use Rattle.ods_shell.specs.Facts.{created_in}
use Rattle.ods_shell.specs.declared.facts.Facts.{Facts}

-- the second of a date by the clock of some zone; none if there is no such time
abbrev pub IsDateAt : List ℕ → Option ℕ → Type 0
IsDateAt date None = IsSecondAt date 0
IsDateAt date (Some second) = IsSecondAt date second

-- if dates are requested it is the second of the creation of the file
abbrev pub IsDatedBy : Bool → Option Facts → Option ℕ → Type 0
IsDatedBy false facts second = second ≡ None
IsDatedBy true None second = second ≡ None
IsDatedBy true (Some facts) second = IsDateAt (created_in facts.ident) second
