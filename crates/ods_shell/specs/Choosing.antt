-- The lines of a directory that a path chooses.
use Rattle.std.specs.Prelude.{◌≡◌, ◌≤◌, ◌⊎◌, List, [], ◌∷◌, ◌++◌, unwrap_or}
use Rattle.std.specs.List.{Contains}
use Rattle.ods_base.specs.Name.{RadName, title, type_text}
use Rattle.ods_base.specs.declared.listed.Listed.{Listed}
use Rattle.ods_paths.specs.declared.versions.Versions.{Versions}
use Rattle.ods_paths.specs.declared.versions.Versions.TheVariants.{Exact, Highest, Lowest, Every}
use Rattle.ods_paths.specs.Patterns.{Matches}
use Rattle.ods_paths.specs.Paths.{Files}

-- the patterns of a path match the name and the type
abbrev pub IsMatched : Files → RadName → Type 0
IsMatched files name = Matches files.name (title name) × Matches files.kind (type_text name)

-- two lines show one name
abbrev pub IsOneName : Listed → Listed → Type 0
IsOneName a b = (title a.name ≡ title b.name) × (type_text a.name ≡ type_text b.name)

-- The choice picks this line by its version: the exact version, the highest or the lowest version of its name, or every version.
abbrev pub IsPicked : Versions → List Listed → Listed → Type 0
IsPicked (Exact version) lines e = e.version ≡ version
IsPicked Highest lines e = (o : Listed) → Contains lines o → IsOneName o e → o.version ≤ e.version
IsPicked Lowest lines e = (o : Listed) → Contains lines o → IsOneName o e → e.version ≤ o.version
IsPicked Every lines e = Unit {0}

-- the patterns match the line, and its version is picked by the choice of the path, or by `unsaid` if the path has none
abbrev pub IsChosen : Files → Versions → List Listed → Listed → Type 0
IsChosen files unsaid lines e = IsMatched files e.name × IsPicked (unwrap_or files.versions unsaid) lines e

-- exactly the items that satisfy P, in their order
abbrev pub AreThose : {X : Type 0} → (X → Type 0) → List X → List X → Type 0
AreThose P [] found = found ≡ []
AreThose {X} P (x ∷ xs) found = (P x × (rest : List X) × (found ≡ x ∷ rest) × AreThose P xs rest) ⊎ ((¬ P x) × AreThose P xs found)

-- the results of P for each item, in order
abbrev pub AreEach : {X Y : Type 0} → (X → List Y → Type 0) → List X → List Y → Type 0
AreEach P [] found = found ≡ []
AreEach {X} {Y} P (x ∷ xs) found = (here : List Y) × (rest : List Y) × (found ≡ here ++ rest) × P x here × AreEach P xs rest
