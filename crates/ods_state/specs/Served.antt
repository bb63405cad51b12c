-- Serving a request on a sound image: the step, or the reason of the refusal. There is one relation of each for every request.
use Rattle.std.specs.Prelude.{◌≡◌, ◌⊎◌, ℕ, true, List, IsSome, MatchOption, Some}
use Rattle.ods_base.specs.declared.file_id.Uic.{Uic}
use Rattle.ods_space.specs.Layout.{VolumeLayout}
use Rattle.ods_mount.specs.Sound.{IsSoundBy}
use Rattle.ods_request.specs.declared.requests.Request.{Request}
use Rattle.ods_request.specs.declared.answers.Answer.{Answer}
use Rattle.ods_request.specs.declared.refusals.Refusal.{Refusal}
use Rattle.ods_request.specs.declared.refusals.Refusal.TheVariants as refusal
use Rattle.ods_request.specs.Catalogue.{Catalogue}
use Rattle.ods_request.specs.Faults.{fault_of}
use Rattle.ods_request.specs.Steps.{step}
use Rattle.ods_request.specs.Table.{takes_memory}
use Rattle.ods_state.specs.Change.{disk}
use Rattle.ods_state.specs.Contents.{ShowsBy}
use Rattle.ods_state.specs.Moves.{Moves, ChangesOnlyTouched}
use Rattle.ods_state.specs.Version.{PastIsSpent}
use Rattle.ods_state.specs.Wants.{Lacks}

-- The blocks I, by the layout L, become the blocks J, by the layout M, by a request with this answer. It serves Create too, whose ID the volume
-- chooses. The resulting catalogue is the result of the step with this answer.
pub record IsStepOf (I : List (List ℕ)) (L : VolumeLayout) (who : Uic) (r : Request) (a : Answer) (J : List (List ℕ)) (M : VolumeLayout) : Type 0 where
  -- for each catalogue that the blocks show, with its past, the request has this answer
  pub answered : (C : Catalogue) → ShowsBy I L C → PastIsSpent I L C → IsSome (step C who r a)
  -- the blocks then show the resulting catalogue, and no ID of its past can be assigned again
  pub shown : (C D : Catalogue) → ShowsBy I L C → PastIsSpent I L C → step C who r a ≡ Some D → ShowsBy J M D × PastIsSpent J M D
  pub sound : IsSoundBy J M
  -- the volume has what the request needs
  pub enough : (f : Refusal) → ¬ Lacks I L r f
  pub moves : Moves (disk I L) r a (disk J M)
  pub elsewhere : ChangesOnlyTouched (disk I L) r (disk J M)

-- why a request without a fault is refused: the volume lacks what it needs, or memory for it was refused
abbrev pub IsShortOf : List (List ℕ) → VolumeLayout → Request → Refusal → Type 0
IsShortOf I L r f = Lacks I L r f ⊎ ((f ≡ refusal.NoMemory) × (takes_memory r ≡ true))

-- A request is refused by its first fault, if the catalogue that the blocks show has one. Otherwise it is refused for what the volume lacks, or out
-- of memory.
abbrev pub IsRefusalOf : List (List ℕ) → VolumeLayout → Uic → Request → Refusal → Type 0
IsRefusalOf I L who r f = (C : Catalogue) → ShowsBy I L C → MatchOption (fault_of C who r) (IsShortOf I L r f) (λ g. f ≡ g)
