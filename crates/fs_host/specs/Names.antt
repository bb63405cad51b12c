-- Paths of host files: their parts, the targets of links, and hidden names.
use Rattle.std.specs.Prelude.{◌≡◌, ◌≢◌, ℕ, zero, suc, ◌+◌, ◌-◌, ◌*◌, ◌%◌, ◌^◌, ◌<◌, ◌≤◌, ◌⊎◌, List, [], ◌∷◌, ◌++◌, length, take, fold, slice_index, codes}
use Rattle.std.specs.Fmt.{decimal}
use Rattle.std.specs.Str.{IsCharBoundary}

-- no byte is a slash, which is 47
abbrev pub LacksSlash : List ℕ → Type 0
LacksSlash text = (i : ℕ) → i < length text → slice_index text i ≢ 47

-- The name is the text after the last slash of a path, and the folder is the text before it. The folder is "/" if this text is empty, and "." if
-- there is no slash.
pub record AreParts (path folder name : List ℕ) : Type 0 where
  pub name_alone : LacksSlash name
  pub joined : (path ≡ name × (folder ≡ codes ".")) ⊎ ((path ≡ 47 ∷ name) × (folder ≡ codes "/")) ⊎ ((folder ≢ []) × (path ≡ folder ++ 47 ∷ name))

-- the target text of a link begins at the root
abbrev pub IsFromRoot : List ℕ → Type 0
IsFromRoot link = slice_index link 0 ≡ 47

-- The target of a link at this path: its own text if it begins at the root or the path has no folder, otherwise that text in the folder of the
-- path.
abbrev pub LeadsTo : List ℕ → List ℕ → List ℕ → Type 0
LeadsTo path link text =
    (IsFromRoot link × (text ≡ link))
    ⊎ (LacksSlash path × (text ≡ link))
    ⊎ (¬ IsFromRoot link × ((folder name : List ℕ) × LacksSlash name × (path ≡ folder ++ 47 ∷ name) × (text ≡ folder ++ 47 ∷ link)))

-- `count` links reach the last path from the first, each at the path that the one before reaches
abbrev pub Leads : ℕ → List ℕ → List ℕ → Type 0
Leads zero path end = path ≡ end
Leads (suc count) path end = (at link : List ℕ) × Leads count path at × LeadsTo at link end

-- fewer than 40 links lead from a path to its end
abbrev pub IsReached : List ℕ → List ℕ → Type 0
IsReached path end = (count : ℕ) × (count < 40) × Leads count path end

-- a number for a name
abbrev pub number_in : List ℕ → ℕ
number_in name = fold (λ number byte. (number * 257 + byte) % 2 ^ 64) 0 name

-- the front is the rest of a name that is cut to at most `most` bytes: all of its letters that end before that index
abbrev pub IsFront : List ℕ → ℕ → List ℕ → Type 0
IsFront name most front = (k : ℕ) × (k ≤ most) × (front ≡ take k name) × ((i : ℕ) → k < i → i < most → ¬ IsCharBoundary name i)

-- the text for a name in `room` bytes: the name, or its front and its number if it is longer
abbrev pub StandsFor : List ℕ → ℕ → List ℕ → Type 0
StandsFor name room text =
    ((length name ≤ room) × (text ≡ name))
    ⊎ ((room < length name) × ((front : List ℕ) × IsFront name (room - 21) front × (text ≡ front ++ 46 ∷ decimal (number_in name))))

-- The text is the path of the hidden file next to this one, for a use of this word. Its name has at most 255 bytes.
pub record IsHidden (path word text : List ℕ) : Type 0 where
  pub folder : List ℕ
  pub name : List ℕ
  pub kept : List ℕ
  pub parts : AreParts path folder name
  pub stands : StandsFor name (247 - length word) kept
  pub is : text ≡ folder ++ (codes "/." ++ (kept ++ (codes ".f11fs-" ++ word)))
  pub fits : length word ≤ 225 → length kept + 8 + length word ≤ 255
