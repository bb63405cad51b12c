-- Why a path of mkdir or rmdir means no directory, by what is read of it.
use Rattle.std.proofs.Common.{◌≡◌, ℕ, List, inl, inr, subst, Result, Ok, Err}
use Rattle.std.specs.Prelude.{IfErr, MatchResult, OnErr, OnOk}
use Rattle.ods_space.specs.Layout.{VolumeLayout}
use Rattle.ods_paths.specs.Paths.{Folder, Said, Says}
use Rattle.ods_upkeep.specs.declared.failure.Why.{Why}
use Rattle.ods_upkeep.specs.Meant.{IsMeant}
use Rattle.ods_upkeep.specs.Unmade.{IsNoNewPlace, IsNoPlace}
use Rattle.ods_upkeep.specs.Unmeant.{MeansNone}
use Rattle.ods_upkeep.proofs.Meaning.{means_by}

-- what follows from why a call fails
pub if_err_more : {A E : Type 0} {P Q : E → Type 0} (result : Result A E) → ((why : E) → P why → Q why) → IfErr result P → IfErr result Q
if_err_more (Ok x) more p = tt
if_err_more (Err why) more p = more why p

-- what follows from the promises of a last call
pub match_last : {A E : Type 0} {P R U : Type 0} {Q S : E → Type 0} (result : Result A E) → (P → R) → ((why : E) → U → Q why → S why) → OnOk result P → OnErr result U → IfErr result Q → MatchResult result (λ _. R) S
match_last (Ok x) ok err p u q = ok p
match_last (Err why) ok err p u q = err why u q

-- what the text means none by that is read, the path means none by
pub means_none : (path read : List ℕ) (why : Why) → read ≡ path → MeansNone read why → MeansNone path why
means_none path read why is none = subst (λ t. MeansNone t why) is none

-- what the text means that is read is no new place, and so the path means none
pub no_place : (I : List (List ℕ)) (L : VolumeLayout) (path read : List ℕ) (up : Folder) (name : List ℕ) (why : Why) → read ≡ path → (says : Said) × Says read says × IsMeant read says up name → IsNoPlace I L up name why
    → IsNoNewPlace I L path why
no_place I L path read up name why is meant none = inr (up, (name, means_by path read up name is meant, none))
