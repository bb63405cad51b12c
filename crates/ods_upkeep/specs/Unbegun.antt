-- Why put is refused before the first file.
use Rattle.std.specs.Prelude.{◌≡◌, ◌≢◌, ◌⊎◌, ◌≤◌, ℕ, Bool, true, List, [], ◌∷◌, Option, Some, None}
use Rattle.std.specs.Borrow.{Bor}
use Rattle.ods_space.specs.Layout.{VolumeLayout}
use Rattle.ods_request.specs.declared.refusals.Refusal.TheVariants as refusal
use Rattle.ods_shell.specs.declared.alone.Alone.TheVariants as alone
use Rattle.ods_shell.specs.Named.{highest}
use Rattle.ods_shell.specs.declared.facts.Facts.{Facts}
use Rattle.ods_shell.specs.declared.facts.Kind.TheVariants.{Directory}
use Rattle.ods_shell.specs.declared.found.Found.{Found}
use Rattle.ods_shell.specs.declared.path_fault.PathFault.TheVariants as fault
use Rattle.ods_upkeep.specs.Begun.{IsLike, count_of, path_to}
use Rattle.ods_upkeep.specs.Refused.{HasPath, IsNoSource, IsOutOfMemory}
use Rattle.ods_upkeep.specs.Sources.{AreOfPath}
use Rattle.ods_upkeep.specs.Target.{IsNoTarget, IsTarget}
use Rattle.ods_upkeep.specs.declared.failure.Failure.{Failure}
use Rattle.ods_upkeep.specs.declared.failure.Why.{Why}
use Rattle.ods_upkeep.specs.declared.failure.Why.TheVariants.{IsDirectory, Path, Request, Several}
use Rattle.ods_upkeep.specs.declared.target.Target.{Target}

-- Why files are not made like the file of a path. It is not one file. Or it is one, which does not exist, is a directory, or has a number of at most
-- 2.
pub data AreNoPattern (found : List Found) : Why → Type 0 where
  not_one : ((one : Found) → found ≢ one ∷ []) → AreNoPattern found Several
  not_there : (one : Found) → found ≡ one ∷ [] → one.facts ≡ None → AreNoPattern found (Path fault.NoSuchFile)
  directory : (one : Found) (facts : Facts) → found ≡ one ∷ [] → one.facts ≡ Some facts → facts.kind ≡ Directory → AreNoPattern found IsDirectory
  reserved : (one : Found) (facts : Facts) → found ≡ one ∷ [] → one.facts ≡ Some facts → facts.file.number ≤ 2 → AreNoPattern found (Request refusal.Reserved)

-- why a path specifies no model file: it selects nothing, or its selection is no model for them
abbrev pub SaysNoPattern : List (List ℕ) → VolumeLayout → List ℕ → Why → Type 0
SaysNoPattern I L path why = IsNoSource I L (highest alone.Refused) path why ⊎ ((found : List Found) × AreOfPath I L (highest alone.Refused) path found × AreNoPattern found why)

-- there is no model file, if one is given
abbrev pub IsNotLike : List (List ℕ) → VolumeLayout → Option (Bor (List ℕ)) → Failure → Type 0
IsNotLike I L None failure = ⊥
IsNotLike I L (Some path) failure = SaysNoPattern I L path.now failure.why × HasPath failure path.now

-- There is no memory to count names, or to look up the highest versions. Neither is done if one file is put and none is replaced.
abbrev pub AreUncounted : Bool → Bool → Failure → Type 0
AreUncounted several replace failure = ((replace ≡ true) ⊎ (several ≡ true)) × IsOutOfMemory failure

-- Why put does not begin. There is no target. Or there is one, and no model file. Or both are correct, and there is no memory to count.
abbrev pub IsNotBegun : List (List ℕ) → VolumeLayout → Option (Bor (List ℕ)) → Bool → Option (Bor (List ℕ)) → Bool → Failure → Type 0
IsNotBegun I L to several like replace failure =
    (IsNoTarget I L (count_of several) (path_to to) failure.why × HasPath failure (path_to to))
    ⊎ ((target : Target) × IsTarget I L (count_of several) (path_to to) target
    × (IsNotLike I L like failure ⊎ ((facts : Option Facts) × IsLike I L like facts × AreUncounted several replace failure)))
