-- Lists of consecutive requests and header growths of a volume, and the volume afterwards.
use Rattle.std.specs.Prelude.{◌≡◌, ◌⊎◌, ℕ, List, [], ◌∷◌, Option, Some}
use Rattle.std.specs.List.{All}
use Rattle.std.specs.FinSet as set
use Rattle.ods_base.specs.declared.file_id.FileId.{FileId}
use Rattle.ods_base.specs.declared.file_id.Uic.{Uic}
use Rattle.ods_base.specs.Name.{RadName}
use Rattle.ods_request.specs.declared.answers.Answer.{Answer}
use Rattle.ods_request.specs.declared.requests.Request.{Request}
use Rattle.ods_request.specs.declared.requests.Request.TheVariants.{Create, Extend, Enter, Write, SetUser}
use Rattle.ods_request.specs.Catalogue.{Catalogue}
use Rattle.ods_request.specs.Steps.{step}
use Rattle.ods_state.specs.Contents.{ShowsBy}
use Rattle.ods_filing.specs.Filed.{Filed, HasGrown, IsDone}

-- a deed: a request, or `count` more headers for later files
pub data Deed : Type 0 where
  Asks : Request → Deed
  Grows : ℕ → Deed

-- the request is accepted, with some answer
abbrev pub IsObeyed : Filed → Request → Filed → Type 0
IsObeyed old r new = (a : Answer) × IsDone old r a new

-- the request is accepted, or the volume is unchanged
abbrev pub IsAsked : Filed → Request → Filed → Type 0
IsAsked old r new = (new ≡ old) ⊎ IsObeyed old r new

-- it is done: the request is accepted, or INDEXF.SYS has gained the headers, and the blocks show the same catalogues
abbrev pub IsDeed : Filed → Deed → Filed → Type 0
IsDeed old (Asks r) new = IsObeyed old r new
IsDeed old (Grows count) new = HasGrown old count new

-- These deeds, done in order, turn the old volume into the new one.
abbrev pub Leads : Filed → List Deed → Filed → Type 0
Leads old [] new = new ≡ old
Leads old (d ∷ ds) new = (mid : Filed) × IsDeed old d mid × Leads mid ds new

-- this kind of requests includes Create and Enter
abbrev pub MakesFiles : (Request → Type 0) → Type 0
MakesFiles Allows = ((name : RadName) (version blocks : ℕ) (stamp : List ℕ) → Allows (Create name version blocks stamp))
    × ((dir : FileId) (name : RadName) (version : Option ℕ) (file : FileId) → Allows (Enter dir name version file))

-- a request is permitted if the kind allows it; headers for later files are permitted if the kind allows to make and enter files
abbrev pub Permits : (Request → Type 0) → Deed → Type 0
Permits Allows (Asks r) = Allows r
Permits Allows (Grows count) = MakesFiles Allows

-- The new volume is the old one after some accepted requests of its user, in order, each of an allowed kind. If such requests make and enter files,
-- headers for them may be added in between.
pub record IsLed (Allows : Request → Type 0) (old new : Filed) : Type 0 where
  pub deeds : List Deed
  pub allowed : All (Permits Allows) deeds
  pub leads : Leads old deeds new

-- the requests that put a file: a new file, its blocks and its attributes
abbrev pub Fills : Request → Type 0
Fills (Create name version blocks stamp) = Unit {0}
Fills (Extend file blocks) = Unit {0}
Fills (Write file vbn block) = Unit {0}
Fills (SetUser file attributes) = Unit {0}
Fills r = ⊥

-- the catalogue with an empty past, which blocks do not show
abbrev pub forgetful : Catalogue → Catalogue
forgetful C = record { files = C.files; past = set.empty; default = C.default }

-- These requests of a user are consecutive steps from one catalogue to another; the past is forgotten before each.
abbrev pub AreSteps : Catalogue → Uic → List Request → Catalogue → Type 0
AreSteps C who [] D = D ≡ C
AreSteps C who (r ∷ rs) D = (a : Answer) × (M : Catalogue) × (step (forgetful C) who r a ≡ Some M) × AreSteps M who rs D

-- the requests of a list; headers for later files are not a step of a catalogue
abbrev pub requests_in : List Deed → List Request
requests_in [] = []
requests_in (Asks r ∷ ds) = r ∷ requests_in ds
requests_in (Grows count ∷ ds) = requests_in ds

-- Deeds that turn one volume into another lead from each catalogue that the old blocks show, request by request, to one that the new blocks show.
abbrev pub ListsAreSteps : Type 0
ListsAreSteps = (old new : Filed) (deeds : List Deed) → Leads old deeds new
    → (C : Catalogue) → ShowsBy old.image old.layout C → (D : Catalogue) × AreSteps C old.user (requests_in deeds) D × ShowsBy new.image new.layout D
