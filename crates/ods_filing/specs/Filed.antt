-- A mounted volume that consecutive requests change, and the effect of one request.
use Rattle.std.specs.Prelude.{◌≡◌, ℕ, ◌-◌, true, false, List, length, Some}
use Rattle.std.specs.FinSet as set
use Rattle.ods_base.specs.declared.file_id.FileId.{FileId}
use Rattle.ods_base.specs.declared.file_id.Uic.{Uic}
use Rattle.ods_space.specs.Free.{free_numbers}
use Rattle.ods_space.specs.Layout.{Disk, VolumeLayout}
use Rattle.ods_request.specs.declared.requests.Request.{Request}
use Rattle.ods_request.specs.declared.answers.Answer.{Answer}
use Rattle.ods_request.specs.declared.refusals.Refusal.{Refusal}
use Rattle.ods_request.specs.Catalogue.{Catalogue}
use Rattle.ods_request.specs.Steps.{step, created_id}
use Rattle.ods_request.specs.Table.{creates}
use Rattle.ods_state.specs.Contents.{ShowsBy, IsCatalogueOf}
use Rattle.ods_state.specs.Moves.{Moves, ChangesOnlyTouched}
use Rattle.ods_state.specs.Served.{IsRefusalOf}
use Rattle.ods_volume.specs.Changing.{HasMoreHeaders, IsWhyNoMore}

-- what contracts see of it: the image now with its layout, and the user of the requests
pub record Filed : Type 0 where
  pub image : List (List ℕ)
  pub layout : VolumeLayout
  pub user : Uic

-- the volume, for another user
abbrev pub for_another : Filed → Uic → Filed
for_another f user = record { image = f.image; layout = f.layout; user = user }

-- the blocks with their layout
abbrev pub disk_at : Filed → Disk
disk_at f = record { image = f.image; layout = f.layout }

-- if the request makes a file, its ID is not a past ID
abbrev pub IsOpenFor : Catalogue → Request → Answer → Type 0
IsOpenFor C r a = (id : FileId) → creates r ≡ true → created_id a ≡ Some id → set.contains C.past id ≡ false

-- The request is accepted with this answer.
pub record IsDone (old : Filed) (r : Request) (a : Answer) (new : Filed) : Type 0 where
  -- It is a step of each catalogue that the blocks show, with any past, which blocks do not show, if only the ID of a new file is not in it. The
  -- blocks then show the catalogue after the step.
  pub steps : (C : Catalogue) → ShowsBy old.image old.layout C → IsOpenFor C r a → (D : Catalogue) × (step C old.user r a ≡ Some D) × ShowsBy new.image new.layout D
  -- so it is a step of the catalogue of the image, whose past is the IDs of the present files
  pub fresh : (C : Catalogue) → IsCatalogueOf old.image C → IsOpenFor C r a
  -- blocks and numbers move as the request requires, and no other block changes
  pub moves : Moves (disk_at old) r a (disk_at new)
  pub elsewhere : ChangesOnlyTouched (disk_at old) r (disk_at new)
  pub user : new.user ≡ old.user

-- the number of headers that INDEXF.SYS lacks for `files` later files, of one header each
abbrev pub lacking : Filed → ℕ → ℕ
lacking f files = files - length (free_numbers f.image f.layout)

-- INDEXF.SYS has headers for `count` more files, with no other change: the blocks show the same catalogues, and the user is the same.
pub record HasGrown (old : Filed) (count : ℕ) (new : Filed) : Type 0 where
  pub headers : HasMoreHeaders (disk_at old) count (disk_at new)
  pub user : new.user ≡ old.user

-- why it cannot gain them: out of memory, or something that it needs is missing
abbrev pub IsWhyNotGrown : Filed → ℕ → Refusal → Type 0
IsWhyNotGrown f count reason = IsWhyNoMore (disk_at f) count reason

-- why a request is refused: its first fault, a lack of the volume, or out of memory
abbrev pub IsRefusedFor : Filed → Request → Refusal → Type 0
IsRefusedFor f r reason = IsRefusalOf f.image f.layout f.user r reason
