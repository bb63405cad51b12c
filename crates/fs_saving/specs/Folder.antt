-- The content of the names of a folder before and after a call. A folder is seen as the relation between a name and its content: the bytes of a file,
-- or no file.
use Rattle.std.specs.Prelude.{◌≡◌, ◌≢◌, ◌⊎◌, ℕ, List, ◌++◌, Option}

-- the name keeps its content
abbrev pub Stays : (List ℕ → Option (List ℕ) → Type 0) → (List ℕ → Option (List ℕ) → Type 0) → List ℕ → Type 0
Stays old new name = (held : Option (List ℕ)) → old name held → new name held

-- each name except this one keeps its content
abbrev pub OthersStay : (List ℕ → Option (List ℕ) → Type 0) → (List ℕ → Option (List ℕ) → Type 0) → List ℕ → Type 0
OthersStay old new name = (other : List ℕ) → other ≢ name → Stays old new other

-- each name except these two keeps its content
abbrev pub RestStays : (List ℕ → Option (List ℕ) → Type 0) → (List ℕ → Option (List ℕ) → Type 0) → List ℕ → List ℕ → Type 0
RestStays old new one two = (other : List ℕ) → other ≢ one → other ≢ two → Stays old new other

-- a name has the former content of the other name
abbrev pub Moves : (List ℕ → Option (List ℕ) → Type 0) → (List ℕ → Option (List ℕ) → Type 0) → List ℕ → List ℕ → Type 0
Moves old new from to = (held : Option (List ℕ)) → old from held → new to held

-- each content of the name at a moment up to now is its content at a moment up to the call
abbrev pub Lasts : (List ℕ → Option (List ℕ) → Type 0) → (List ℕ → Option (List ℕ) → Type 0) → List ℕ → Type 0
Lasts past since name = (held : Option (List ℕ)) → since name held → past name held

-- the same for each name except this one
abbrev pub OthersLast : (List ℕ → Option (List ℕ) → Type 0) → (List ℕ → Option (List ℕ) → Type 0) → List ℕ → Type 0
OthersLast past since name = (other : List ℕ) → other ≢ name → Lasts past since other

-- each content of the name at a moment up to now is its content at a moment up to the call, or the content of the other name then
abbrev pub LastsOrTakes : (List ℕ → Option (List ℕ) → Type 0) → (List ℕ → Option (List ℕ) → Type 0) → (List ℕ → Option (List ℕ) → Type 0) → List ℕ → List ℕ → Type 0
LastsOrTakes past since old name from = (held : Option (List ℕ)) → since name held → past name held ⊎ old from held

-- each content of the name at a moment up to now is its content at a moment up to the call, or this one
abbrev pub LastsOrIs : (List ℕ → Option (List ℕ) → Type 0) → (List ℕ → Option (List ℕ) → Type 0) → List ℕ → Option (List ℕ) → Type 0
LastsOrIs past since name new = (held : Option (List ℕ)) → since name held → past name held ⊎ (held ≡ new)

-- a file was given these bytes after its former ones
abbrev pub Gains : (List ℕ → Type 0) → (List ℕ → Type 0) → List ℕ → Type 0
Gains old new bytes = (before : List ℕ) → old before → new (before ++ bytes)

-- each fault that may end a call now could end one before
abbrev pub EndsStay : {E : Type 0} → (E → Type 0) → (E → Type 0) → Type 0
EndsStay {E} old new = (fault : E) → new fault → old fault
