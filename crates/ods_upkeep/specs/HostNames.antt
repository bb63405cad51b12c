-- The name of a host file on the volume.
use Rattle.std.specs.Prelude.{◌≡◌, ◌⊎◌, ℕ, List, [], ◌∷◌, ◌++◌, Option, Some, None}
use Rattle.std.specs.List.{before_first, after_first}
use Rattle.ods_text.specs.Cuts.{Has, is}
use Rattle.ods_base.specs.Name.{RadName, Spells}
use Rattle.ods_base.specs.declared.name.Pick.TheVariants.{Highest}
use Rattle.ods_paths.specs.Patterns.{capitals}

-- the part before the first dot of the name of a host file, or all of it
abbrev pub title_of : List ℕ → List ℕ
title_of host = before_first (is 46) host

-- the part after the first dot, or nothing
abbrev pub type_of : List ℕ → List ℕ
type_of host = after_first (is 46) host

-- not the name of a file: it is empty, or has a `;`
abbrev pub IsNoName : List ℕ → Type 0
IsNoName host = (host ≡ []) ⊎ Has 59 host

-- The first one of `_`, `%` and `&` in a name. Each stands for a character of the volume that RSX cannot type.
abbrev pub IsUntyped : List ℕ → ℕ → Type 0
IsUntyped host c = ((c ≡ 95) × Has 95 host) ⊎ ((c ≡ 37) × (¬ Has 95 host) × Has 37 host) ⊎ ((c ≡ 38) × (¬ Has 95 host) × (¬ Has 37 host) × Has 38 host)

-- it has none of them
abbrev pub IsTyped : List ℕ → Type 0
IsTyped host = (¬ Has 95 host) × (¬ Has 37 host) × (¬ Has 38 host)

-- The name of a host file as a name of the volume: the part before its first dot, and as its type the part after it, in capitals.
pub record IsHostName (host : List ℕ) (name : RadName) : Type 0 where
  pub whole : ¬ IsNoName host
  pub typed : IsTyped host
  pub spelled : Spells (capitals (title_of host) ++ 46 ∷ capitals (type_of host)) name Highest

-- the given name, or the name of the host file
abbrev pub IsNameFor : Option RadName → List ℕ → RadName → Type 0
IsNameFor (Some said) host name = name ≡ said
IsNameFor None host name = IsHostName host name
