-- The choice of versions from the existing versions.
use Rattle.std.specs.Prelude.{◌≡◌, ◌↔◌, ℕ, ◌≤◌, List, Contains}
use Rattle.std.specs.List.{All}
use Rattle.ods_paths.specs.declared.versions.Versions.{Versions}
use Rattle.ods_paths.specs.declared.versions.Versions.TheVariants.{Exact, Highest, Lowest, Every}

-- the choice picks this version from the existing versions: the given one, the highest, the lowest, or all
abbrev pub Picks : Versions → List ℕ → ℕ → Type 0
Picks (Exact v) versions version = version ≡ v
Picks Highest versions version = All (λ v. v ≤ version) versions
Picks Lowest versions version = All (λ v. version ≤ v) versions
Picks Every versions version = Unit {0}

-- from the existing versions, the choice picks exactly the versions from low to high
abbrev pub AreFromTo : Versions → List ℕ → ℕ → ℕ → Type 0
AreFromTo choice versions low high = All (λ v. ((low ≤ v) × (v ≤ high)) ↔ Picks choice versions v) versions
