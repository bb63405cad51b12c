-- Repairs that make the requests of a list in order: all of them, or the requests before a refused one. No protection denies them.
use Rattle.std.specs.Prelude.{◌≡◌, ◌≢◌, ◌⊎◌, ℕ, List, [], ◌∷◌, ◌++◌}
use Rattle.ods_base.specs.declared.file_id.FileId.{FileId}
use Rattle.ods_amend.specs.Access.{protection_at}
use Rattle.ods_request.specs.declared.refusals.Refusal.{Refusal}
use Rattle.ods_request.specs.declared.refusals.Refusal.TheVariants as refusal
use Rattle.ods_request.specs.declared.requests.Request.{Request as Asked}
use Rattle.ods_request.specs.declared.requests.Request.TheVariants.{Enter, Remove}
use Rattle.ods_filing.specs.Amended.{HasProtection}
use Rattle.ods_filing.specs.Filed.{Filed, IsRefusedFor, disk_at}
use Rattle.ods_filing.specs.Led.{IsAsked, IsObeyed}

-- the request enters or removes a name of this directory
abbrev pub IsOfNames : FileId → Asked → Type 0
IsOfNames dir (Enter d name version file) = d ≡ dir
IsOfNames dir (Remove d name pick) = d ≡ dir
IsOfNames dir r = ⊥

-- the volume is the old one, in which this directory denies nothing
abbrev pub IsBare : Filed → FileId → Filed → Type 0
IsBare old dir bare = HasProtection old dir 0 bare

-- the protection word of a directory
abbrev pub word_of : Filed → FileId → ℕ
word_of volume dir = protection_at (disk_at volume) dir

-- then the directory has the protection of the old volume again
abbrev pub IsCovered : Filed → FileId → Filed → Filed → Type 0
IsCovered old dir bare new = HasProtection bare dir (word_of old dir) new

-- The protection of the directory denies the request. It is accepted while the directory denies nothing. Then the directory has its protection again.
pub record IsObeyedBare (old : Filed) (r : Asked) (new : Filed) : Type 0 where
  pub denied : IsRefusedFor old r refusal.Denied
  pub dir : FileId
  pub names : IsOfNames dir r
  pub bare : Filed
  pub done : Filed
  pub bared : IsBare old dir bare
  pub obeyed : IsObeyed bare r done
  pub covered : IsCovered old dir done new

-- the request is accepted, whatever the protection of its directory
abbrev pub IsMade : Filed → Asked → Filed → Type 0
IsMade old r new = IsObeyed old r new ⊎ IsObeyedBare old r new

-- The request of each item is made, in order. Nothing else is done.
abbrev pub AsksAll : {X : Type 0} → (X → Asked) → Filed → List X → Filed → Type 0
AsksAll request old [] new = new ≡ old
AsksAll request old (x ∷ all) new = (mid : Filed) × IsMade old (request x) mid × AsksAll request mid all new

-- The request is refused, also while its directory denies nothing. Then the directory has its protection again.
pub record IsRefusedBare (old : Filed) (r : Asked) (new : Filed) (reason : Refusal) : Type 0 where
  pub dir : FileId
  pub names : IsOfNames dir r
  pub bare : Filed
  pub bared : IsBare old dir bare
  pub refused : IsRefusedFor bare r reason
  pub covered : IsCovered old dir bare new

-- nothing is done; or the directory denies nothing, and the request is made or not
abbrev pub IsLeftBare : Filed → Asked → Filed → Type 0
IsLeftBare old r new = (new ≡ old) ⊎ ((dir : FileId) × (bare : Filed) × IsOfNames dir r × IsBare old dir bare × IsAsked bare r new)

-- why a request is not made, and what is left: it is refused, also where the directory denies nothing, or memory runs out
abbrev pub IsNotMade : Filed → Asked → Filed → Refusal → Type 0
IsNotMade old r new reason = (IsRefusedFor old r reason × (new ≡ old)) ⊎ (IsRefusedBare old r new reason ⊎ ((reason ≡ refusal.NoMemory) × IsLeftBare old r new))

-- The requests before one are made. This one is not, for a reason that is not its right, and no more requests are made.
pub record StopsAt {X : Type 0} (request : X → Asked) (old : Filed) (all : List X) (new : Filed) (x : X) (reason : Refusal) : Type 0 where
  pub before : List X
  pub behind : List X
  pub order : all ≡ before ++ x ∷ behind
  pub mid : Filed
  pub asked : AsksAll request old before mid
  pub undenied : reason ≢ refusal.Denied
  pub left : IsNotMade mid (request x) new reason
