-- The answers of a sound image to requests that create no file, and the changes of its blocks. These are the forms in which proofs find a step and a
-- refusal of `Served`.
use Rattle.std.specs.Prelude.{◌≡◌, ◌≤◌, ℕ, List, MatchOption, None, Some}
use Rattle.ods_base.specs.declared.file_id.Uic.{Uic}
use Rattle.ods_header.specs.Header.{sequence_of}
use Rattle.ods_space.specs.Layout.{Disk, VolumeLayout, header_at}
use Rattle.ods_mount.specs.Sound.{IsSoundBy}
use Rattle.ods_request.specs.declared.requests.Request.{Request}
use Rattle.ods_request.specs.declared.answers.Answer.{Answer}
use Rattle.ods_request.specs.declared.refusals.Refusal.{Refusal}
use Rattle.ods_request.specs.declared.refusals.Refusal.TheVariants as refusal
use Rattle.ods_request.specs.Catalogue.{Catalogue}
use Rattle.ods_request.specs.Faults.{fault_of}
use Rattle.ods_request.specs.Steps.{answer_of, after}
use Rattle.ods_state.specs.Contents.{ShowsBy}
use Rattle.ods_state.specs.Moves.{Moves, ChangesOnlyTouched}

-- the blocks of an image with their layout
abbrev pub disk : List (List ℕ) → VolumeLayout → Disk
disk I L = record { image = I; layout = L }

-- the catalogue that the blocks show does not refuse the request, and this is the answer
abbrev pub IsAnsweredBy : List (List ℕ) → VolumeLayout → Uic → Request → Answer → Type 0
IsAnsweredBy I L who r a = (C : Catalogue) → ShowsBy I L C → (fault_of C who r ≡ None) × (answer_of C r ≡ a)

-- in the catalogue that the blocks show, this is the first fault of the request
abbrev pub IsFaultBy : List (List ℕ) → VolumeLayout → Uic → Request → Refusal → Type 0
IsFaultBy I L who r f = (C : Catalogue) → ShowsBy I L C → fault_of C who r ≡ Some f

-- Why a request that takes memory is refused when the volume lacks nothing: its first fault, or otherwise out of memory. It is a form of
-- `IsRefusalOf` (the law `refusal_is_one`).
abbrev pub IsRefusedBy : List (List ℕ) → VolumeLayout → Uic → Request → Refusal → Type 0
IsRefusedBy I L who r f = (C : Catalogue) → ShowsBy I L C → MatchOption (fault_of C who r) (f ≡ refusal.NoMemory) (λ g. f ≡ g)

-- The blocks I become the blocks J by a request with this answer. The layout is unchanged. If the volume lacks nothing, it is `IsStepOf` (the law
-- `carried_out_is_step`).
pub record IsCarriedOut (I : List (List ℕ)) (L : VolumeLayout) (who : Uic) (r : Request) (a : Answer) (J : List (List ℕ)) : Type 0 where
  pub answered : IsAnsweredBy I L who r a
  pub sound : IsSoundBy J L
  pub shown : (C : Catalogue) → ShowsBy I L C → ShowsBy J L (after C r)
  -- no number's sequence word decreases
  pub sequences : (n : ℕ) → sequence_of (header_at I L n) ≤ sequence_of (header_at J L n)
  pub moves : Moves (disk I L) r a (disk J L)
  pub elsewhere : ChangesOnlyTouched (disk I L) r (disk J L)
