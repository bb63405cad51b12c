-- What stands behind the last slash of a path.
use Rattle.std.specs.Prelude.{◌≡◌, ◌≢◌, ℕ, ◌+◌, ◌≤◌, Option, Some, None, List, ◌∷◌, ◌++◌, length, take, drop}
use Rattle.std.specs.Str.Pattern.{RFindsChar}
use Rattle.std.proofs.Common.{refl, ap, sym, ◌∙◌, lit<, inl, inr}
use Rattle.std.proofs.lemmas.List.{take-append-drop}
use Rattle.std.proofs.lemmas.Str.Pattern.{NoCharPasses-char, drop_at_char}
use Rattle.fs_host.specs.Names.{LacksSlash}
use Rattle.f11fs.specs.Readings.{IsLastPart}

-- the clause of `rsplit_once` at a slash, which is 47
abbrev pub IsCut : List ℕ → List ℕ → List ℕ → Type 0
IsCut path folder name = (i : ℕ) × (j : ℕ) × RFindsChar 47 path (Some (i, j)) × (folder ≡ take i path) × (name ≡ drop j path) × (i ≤ j) × (length folder ≡ i) × (length name + j ≡ length path)

joined : (path folder name : List ℕ) → IsCut path folder name → path ≡ folder ++ 47 ∷ name
joined path folder name h =
    let at : drop h.0 path ≡ 47 ∷ drop h.1 path = drop_at_char 47 path h.0 h.1 h.2.1 (lit< tt) in
    let whole : take h.0 path ++ drop h.0 path ≡ path = take-append-drop h.0 path in
    let front : folder ≡ take h.0 path = h.3 in
    let back : name ≡ drop h.1 path = h.4 in
    cc

alone : (path folder name : List ℕ) → IsCut path folder name → LacksSlash name
alone path folder name h = rw h.4 (λ i low. NoCharPasses-char 47 (drop h.1 path) i h.2.0 (lit< tt) low)

-- the name behind the last slash
pub behind_slash : (path folder name : List ℕ) → IsCut path folder name → IsLastPart path name
behind_slash path folder name h = (alone path folder name h, inr (folder, joined path folder name h))

-- a path without one
pub no_slash : (path : List ℕ) → RFindsChar 47 path None → IsLastPart path path
no_slash path h = (λ i low. NoCharPasses-char 47 path i h (lit< tt) low, inl refl)
