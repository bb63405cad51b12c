-- The names of files on a host.
use Rattle.std.specs.Prelude.{◌≡◌, ◌≢◌, ℕ, ◌==◌, ◌&&◌, not, ◌⊎◌, Bool, if◌then◌else◌, List, [], ◌∷◌, ◌++◌, length, encode_utf8, Option, Some, None}
use Rattle.std.specs.Char.{to_ascii_lowercase}
use Rattle.std.specs.Fmt.{decimal}
use Rattle.std.specs.List.{before_first, flat_map}
use Rattle.std.specs.Str.{chars}
use Rattle.ods_base.specs.Name.{title, type_text}
use Rattle.ods_header.specs.Text.{ident_text}
use Rattle.ods_shell.specs.declared.facts.Facts.{Facts}
use Rattle.ods_shell.specs.declared.found.EntryPlace.{EntryPlace}

-- a letter as a small letter
abbrev pub small_letter : ℕ → List ℕ
small_letter c = encode_utf8 (to_ascii_lowercase c)

-- a text in small letters
abbrev pub small_text : List ℕ → List ℕ
small_text text = flat_map small_letter (chars text)

-- the text before the `;`, or the whole text
abbrev pub before_version : List ℕ → List ℕ
before_version text = before_first (λ b. b == 59) text

-- the text without a final dot
abbrev pub IsWithoutDot : List ℕ → List ℕ → Type 0
IsWithoutDot text kept = (text ≡ kept ++ 46 ∷ []) ⊎ ((kept ≡ text) × ((front : List ℕ) → text ≢ front ++ 46 ∷ []))

-- a type in small letters after a dot. An empty type yields nothing, unless a version follows: otherwise the version would be in the position of a
-- type.
abbrev pub small_type : List ℕ → Bool → List ℕ
small_type kind with_version = if length kind == 0 && not with_version then [] else 46 ∷ small_text kind

-- the name of an entry in small letters, with its version if `with_version`
abbrev pub placed_name : EntryPlace → Bool → List ℕ
placed_name place with_version =
    small_text (title place.entry.name) ++ small_type (type_text place.entry.name) with_version ++ (if with_version then 46 ∷ decimal place.entry.version else [])

-- the name of a file on a host: from its entry, or from the name in its header
abbrev pub IsHostName : Option EntryPlace → Option Facts → Bool → List ℕ → Type 0
IsHostName (Some place) facts with_version text = text ≡ placed_name place with_version
IsHostName None (Some facts) with_version text = (kept : List ℕ) × IsWithoutDot (before_version (ident_text facts.ident)) kept × (text ≡ small_text kept)
IsHostName None None with_version text = text ≡ []
