-- The files that a selection of all files skips.
use Rattle.std.specs.Prelude.{◌||◌, nat_le, Bool, true, false, Option, Some, None}
use Rattle.ods_shell.specs.declared.facts.Facts.{Facts}
use Rattle.ods_shell.specs.declared.facts.Kind.{Kind}
use Rattle.ods_shell.specs.declared.facts.Kind.TheVariants as kind

abbrev pub is_directory : Kind → Bool
is_directory kind.Directory = true
is_directory other = false

-- directories, and the volume's own files, 1 to 5; an entry that names no file is not skipped
abbrev pub is_passed_over : Option Facts → Bool
is_passed_over None = false
is_passed_over (Some facts) = is_directory facts.kind || nat_le facts.file.number 5
