-- Small pieces: the exit status of a refusal, parts of a path, entries that are never removed, and attributes that change in part.
use Rattle.std.specs.Prelude.{◌≡◌, ◌≤◌, ◌==◌, ◌||◌, ℕ, Bool, Option, Some, ◌+◌, List, ◌∷◌, [], ◌++◌, ◌/◌, ◌%◌, take, drop}
use Rattle.std.specs.List.{after_last}
use Rattle.ods_request.specs.declared.refusals.Refusal.TheVariants as refusal
use Rattle.ods_records.specs.Attributes.{attributes}
use Rattle.ods_records.specs.declared.faults.TextFault.TheVariants as text
use Rattle.ods_shell.specs.declared.status.Status.{Status}
use Rattle.ods_shell.specs.declared.status.Status.TheVariants.{Words, Host, Refused}
use Rattle.ods_shell.specs.declared.facts.Facts.{Facts}
use Rattle.ods_shell.specs.declared.found.EntryPlace.{EntryPlace}
use Rattle.ods_shell.specs.Found.{HasPathStatus}
use Rattle.ods_upkeep.specs.declared.failure.Why.{Why}
use Rattle.ods_upkeep.specs.declared.failure.Why.TheVariants.{Path, Request, Text, Put, BadName, IsDirectory, DirectoryType, DirectoryThere, IntoItself, IsId, Several, Versioned, IsNamed, PastEnd, Hidden}
use Rattle.ods_upkeep.specs.PutFor.{HasPutStatus}

-- The exit status of a refusal: out of memory is a fault of the host, words without a meaning are wrong words, and a request that is not done is
-- refused. A path has its own status.
abbrev pub HasStatus : Why → Status → Type 0
HasStatus (Path fault) s = HasPathStatus fault s
HasStatus (Request refusal.NoMemory) s = s ≡ Host
HasStatus (Request reason) s = s ≡ Refused
HasStatus (Text text.NoMemory) s = s ≡ Host
HasStatus (Text fault) s = s ≡ Refused
HasStatus (Put fault) s = HasPutStatus fault s
HasStatus BadName s = s ≡ Words
HasStatus IsId s = s ≡ Words
HasStatus Several s = s ≡ Words
HasStatus Versioned s = s ≡ Words
HasStatus IsDirectory s = s ≡ Refused
HasStatus DirectoryType s = s ≡ Refused
HasStatus DirectoryThere s = s ≡ Refused
HasStatus IntoItself s = s ≡ Refused
HasStatus IsNamed s = s ≡ Refused
HasStatus PastEnd s = s ≡ Refused
HasStatus Hidden s = s ≡ Refused

-- the last part of a path: the part after its last `/` or `]`, or all if there is none
abbrev pub ends_folder : ℕ → Bool
ends_folder c = c == 47 || c == 93

abbrev pub last_part : List ℕ → List ℕ
last_part path = after_last ends_folder path

-- the entry is never removed: it is in the master directory, file 4, and names a file of the volume's own, 1 to 5
pub record Stays (place : Option EntryPlace) (facts : Option Facts) : Type 0 where
  pub at : EntryPlace
  pub file : Facts
  pub entry : place ≡ Some at
  pub known : facts ≡ Some file
  pub master : at.directory.number ≡ 4
  pub own : file.file.number ≤ 5

-- three octal digits
abbrev pub octal_digits : ℕ → List ℕ
octal_digits n = (48 + n / 64) ∷ (48 + n / 8 % 8) ∷ (48 + n % 8) ∷ []

-- the attributes with the record type, the record attributes and the record size of others
abbrev pub like_those : List ℕ → List ℕ → List ℕ
like_those attributes others = take 4 others ++ drop 4 attributes

-- the attributes with F.HIBK, F.EFBK and F.FFBY of a file with this number of bytes
abbrev pub with_end : List ℕ → ℕ → List ℕ
with_end own bytes = take 4 own ++ take 10 (drop 4 (attributes 1 0 512 bytes)) ++ drop 14 own
