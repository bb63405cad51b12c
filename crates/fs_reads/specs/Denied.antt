-- Which files a user may read, and why not.
use Rattle.std.specs.Prelude.{◌≡◌, ℕ, true, false, List, [], ◌∷◌, ◌++◌, ◌⊎◌, Option, Some, None, codes}
use Rattle.std.specs.Fmt.{radix_digits}
use Rattle.std.specs.List.{All, Contains, flat_map}
use Rattle.ods_base.specs.declared.file_id.Uic.{Uic}
use Rattle.ods_request.specs.Rights.{permits}
use Rattle.ods_request.specs.declared.rights.Right.TheVariants as right
use Rattle.ods_space.specs.Layout.{VolumeLayout}
use Rattle.ods_shell.specs.Facts.{AreFacts}
use Rattle.ods_shell.specs.declared.facts.Facts.{Facts}
use Rattle.ods_shell.specs.declared.facts.Kind.TheVariants.{Directory}
use Rattle.ods_shell.specs.declared.form.FormFault.{FormFault}
use Rattle.ods_shell.specs.declared.folders.Directory.{Directory as Met}
use Rattle.ods_shell.specs.Texts.{shown_directory}
use Rattle.ods_shell.specs.declared.status.Status.{Status}
use Rattle.ods_shell.specs.declared.status.Status.TheVariants as status
use Rattle.fs_reads.specs.declared.reading.Unread.{Unread}
use Rattle.fs_reads.specs.declared.reading.Unread.TheVariants as unread

-- the user has the right to read the file; without a user each file is read
abbrev pub MayRead : Option Uic → Facts → Type 0
MayRead user facts = (who : Uic) → user ≡ Some who → permits who facts.owner facts.protection right.Read ≡ true

-- the user does not have that right
abbrev pub IsDenied : Option Uic → Facts → Unread → Type 0
IsDenied user facts (unread.Denied who) = (user ≡ Some who) × (permits who facts.owner facts.protection right.Read ≡ false)
IsDenied user facts (unread.Form fault) = ⊥

-- why nothing is read from the file of these facts: this user may not read it, or may, and it does not have the requested form
abbrev pub IsUnread : Option Uic → Facts → (FormFault → Type 0) → Unread → Type 0
IsUnread user facts Lacks (unread.Denied who) = (user ≡ Some who) × (permits who facts.owner facts.protection right.Read ≡ false)
IsUnread user facts Lacks (unread.Form fault) = MayRead user facts × Lacks fault

-- file n is a directory whose names this user may not read
abbrev pub IsClosedTo : List (List ℕ) → VolumeLayout → Uic → ℕ → Type 0
IsClosedTo I L who n = (facts : Facts) × AreFacts I L n facts × (facts.kind ≡ Directory) × (permits who facts.owner facts.protection right.Read ≡ false)

-- exactly these directories are closed to the user; none without a user
abbrev pub AreClosedTo : List (List ℕ) → VolumeLayout → Option Uic → List ℕ → Type 0
AreClosedTo I L None closed = closed ≡ []
AreClosedTo I L (Some who) closed = All (IsClosedTo I L who) closed × ((n : ℕ) → IsClosedTo I L who n → Contains closed n)

-- number n comes after the others if it is the number of a closed directory
abbrev pub AddsClosed : List (List ℕ) → VolumeLayout → Uic → ℕ → List ℕ → List ℕ → Type 0
AddsClosed I L who n old new = (IsClosedTo I L who n × (new ≡ old ++ n ∷ [])) ⊎ ((¬ IsClosedTo I L who n) × (new ≡ old))

-- the status of a command that continues past these closed directories
abbrev pub IsClosedStatus : Option Uic → List Met → Status → Type 0
IsClosedStatus None met s = s ≡ status.Done
IsClosedStatus (Some who) [] s = s ≡ status.Done
IsClosedStatus (Some who) (first ∷ others) s = s ≡ status.Refused

-- a user: [g,m], both in octal
unfoldable pub user_text : Uic → List ℕ
user_text who = 91 ∷ radix_digits 8 false who.group ++ 44 ∷ radix_digits 8 false who.member ++ 93 ∷ []

-- the text for a directory whose names this user may not read
unfoldable pub denied_text : Uic → List ℕ
denied_text who = codes ": denied to " ++ user_text who ++ 10 ∷ []

-- a line for each of these directories, as a path names it
abbrev pub closed_text : Uic → List Met → List ℕ
closed_text who met = flat_map (λ directory. shown_directory directory.names.items ++ denied_text who) met
