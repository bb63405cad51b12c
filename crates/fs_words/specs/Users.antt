-- The names of users in words.
use Rattle.std.specs.Prelude.{ℕ, List, ◌⊎◌}
use Rattle.ods_base.specs.declared.file_id.Uic.{Uic}
use Rattle.ods_text.specs.Users.{IsUser, IsUserInBrackets}

-- [g,m] as in a path and a script, or g,m
abbrev pub IsSaid : List ℕ → Uic → Type 0
IsSaid text who = IsUserInBrackets text (who.group, who.member) ⊎ IsUser text (who.group, who.member)
