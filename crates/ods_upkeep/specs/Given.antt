-- The effect of chmod and chown: each selected file receives another protection word, or another owner.
use Rattle.std.specs.Prelude.{◌≡◌, ◌⊎◌, ℕ, List, [], ◌∷◌, Option, Some, None}
use Rattle.std.specs.Borrow.{Bor}
use Rattle.std.specs.String.{string_bytes}
use Rattle.ods_base.specs.declared.file_id.Uic.{Uic}
use Rattle.ods_request.specs.declared.refusals.Refusal.{Refusal}
use Rattle.ods_filing.specs.Filed.{Filed}
use Rattle.ods_filing.specs.Amended.{HasGiven, IsWhyNotGiven}
use Rattle.ods_shell.specs.declared.alone.Alone.TheVariants as alone
use Rattle.ods_shell.specs.Named.{highest}
use Rattle.ods_shell.specs.declared.facts.Facts.{Facts}
use Rattle.ods_shell.specs.declared.found.Found.{Found}
use Rattle.ods_shell.specs.declared.path_fault.PathFault.TheVariants.{NoSuchFile}
use Rattle.ods_upkeep.specs.Refused.{AreNoSources, HasPath}
use Rattle.ods_upkeep.specs.Sources.{AreSources}
use Rattle.ods_upkeep.specs.declared.failure.Failure.{Failure}
use Rattle.ods_upkeep.specs.declared.giving.Access.{Access}
use Rattle.ods_upkeep.specs.declared.failure.Why.{Why}
use Rattle.ods_upkeep.specs.declared.failure.Why.TheVariants.{Path, Request}

-- the file that was found receives these, each if it is given; an entry that names no file has none
abbrev pub GetsAccess : Option Uic → Option ℕ → Option Facts → Filed → Filed → Type 0
GetsAccess owner protection None old new = ⊥
GetsAccess owner protection (Some facts) old new = HasGiven old facts.file owner protection new

-- each of these, in order
abbrev pub GetAccess : Option Uic → Option ℕ → List Found → Filed → Filed → Type 0
GetAccess owner protection [] old new = new ≡ old
GetAccess owner protection (f ∷ found) old new = (mid : Filed) × GetsAccess owner protection f.facts old mid × GetAccess owner protection found mid new

-- Each file that these paths select, the highest version if they specify none, has received this owner and this protection, each if it is given.
-- Nothing else was done.
abbrev pub AreGiven : Option Uic → Option ℕ → List (Bor (List ℕ)) → Filed → Filed → Type 0
AreGiven owner protection paths old new =
    (found : List Found) × AreSources old.image old.layout (highest alone.Themselves) paths found × GetAccess owner protection found old new

-- why the found file does not receive them: its entry names no file; or the user may not give them, or out of memory
abbrev pub GetsNone : Option Facts → Filed → Why → Type 0
GetsNone None old why = why ≡ Path NoSuchFile
GetsNone (Some facts) old why = (reason : Refusal) × (why ≡ Request reason) × IsWhyNotGiven old facts.file reason

-- These receive them, in order, up to one that does not.
abbrev pub StopsGiving : Option Uic → Option ℕ → List Found → Filed → Filed → Failure → Type 0
StopsGiving owner protection [] old new failure = ⊥
StopsGiving owner protection (f ∷ found) old new failure =
    (HasPath failure (string_bytes f.path) × (new ≡ old) × GetsNone f.facts old failure.why)
    ⊎ ((mid : Filed) × GetsAccess owner protection f.facts old mid × StopsGiving owner protection found mid new failure)

-- Why not each file that these paths select receives them, and what was done before: there are no sources, and nothing was done; or one does not
-- receive them.
abbrev pub AreNotGiven : Option Uic → Option ℕ → List (Bor (List ℕ)) → Filed → Filed → Failure → Type 0
AreNotGiven owner protection paths old new failure =
    ((new ≡ old) × AreNoSources old.image old.layout (highest alone.Themselves) paths failure)
    ⊎ ((found : List Found) × AreSources old.image old.layout (highest alone.Themselves) paths found × StopsGiving owner protection found old new failure)

-- each of these files receives its own owner and protection, each if it is given, in order
abbrev pub GetTheirs : List Access → Filed → Filed → Type 0
GetTheirs [] old new = new ≡ old
GetTheirs (a ∷ all) old new = (mid : Filed) × HasGiven old a.file a.owner a.protection mid × GetTheirs all mid new

-- why one does not: the user may not give them, or out of memory
abbrev pub GetsNotIts : Access → Filed → Why → Type 0
GetsNotIts a old why = (reason : Refusal) × (why ≡ Request reason) × IsWhyNotGiven old a.file reason

-- these receive theirs, in order, up to one that does not
abbrev pub StopsGivingTheirs : List Access → Filed → Filed → Failure → Type 0
StopsGivingTheirs [] old new failure = ⊥
StopsGivingTheirs (a ∷ all) old new failure =
    (HasPath failure (string_bytes a.path) × (new ≡ old) × GetsNotIts a old failure.why)
    ⊎ ((mid : Filed) × HasGiven old a.file a.owner a.protection mid × StopsGivingTheirs all mid new failure)
