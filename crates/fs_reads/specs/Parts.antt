-- The parts of an output: what a writer took for each of several files or paths, in order.
use Rattle.std.specs.Prelude.{◌≡◌, ℕ, List, [], ◌∷◌, ◌++◌, Option}
use Rattle.std.specs.Io.KnownBytes.{Appends}
use Rattle.std.specs.List.{flat_map}
use Rattle.ods_shell.specs.declared.status.Status.{Status}
use Rattle.ods_shell.specs.declared.status.Status.TheVariants as status

-- A writer took the texts of some parts in order. If nothing was wrong these are the parts.
abbrev pub HoldsParts : {M : Type 0} → (M → List ℕ) → Option (List ℕ) → Option (List ℕ) → Status → (List M → Type 0) → Type 0
HoldsParts {M} text old new s Are = (parts : List M) × Appends old new (flat_map text parts) × (s ≡ status.Done → Are parts)

-- Each of these has such parts, in order.
abbrev pub HaveParts : {X M : Type 0} → (X → List M → Type 0) → List X → List M → Type 0
HaveParts Has [] parts = parts ≡ []
HaveParts {X} {M} Has (x ∷ xs) parts = (first : List M) × (rest : List M) × (parts ≡ first ++ rest) × Has x first × HaveParts Has xs rest
