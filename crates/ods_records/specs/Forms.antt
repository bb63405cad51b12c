-- The form of a file in words: `variable,cr,80`, by the first four bytes of its attributes.
use Rattle.std.specs.Prelude.{◌≡◌, ℕ, ◌≤◌, Bool, true, false, ◌&&◌, ◌==◌, if◌then◌else◌, List, [], ◌∷◌, codes, Option, Some, None}
use Rattle.std.specs.Fmt.{decimal}
use Rattle.ods_text.specs.Cuts.{IsPair}
use Rattle.ods_records.specs.Attributes.{word}

-- the same bytes
abbrev pub same : List ℕ → List ℕ → Bool
same [] [] = true
same [] (y ∷ ys) = false
same (x ∷ xs) [] = false
same (x ∷ xs) (y ∷ ys) = (x == y) && same xs ys

-- F.RTYP
abbrev pub kind_said : List ℕ → Option ℕ
kind_said text =
    if same text (codes "undefined") then Some 0
    else if same text (codes "fixed") then Some 1
    else if same text (codes "variable") then Some 2
    else if same text (codes "sequenced") then Some 3
    else if same text (codes "stream") then Some 4
    else None

-- F.RATT
abbrev pub control_said : List ℕ → Option ℕ
control_said text =
    if same text (codes "none") then Some 0
    else if same text (codes "ftn") then Some 1
    else if same text (codes "cr") then Some 2
    else if same text (codes "print") then Some 4
    else if same text (codes "none+blk") then Some 8
    else if same text (codes "ftn+blk") then Some 9
    else if same text (codes "cr+blk") then Some 10
    else if same text (codes "print+blk") then Some 12
    else None

abbrev pub IsKind : List ℕ → ℕ → Type 0
IsKind text kind = kind_said text ≡ Some kind

abbrev pub IsControl : List ℕ → ℕ → Type 0
IsControl text control = control_said text ≡ Some control

-- F.RSIZ in decimal, at most 32,767
abbrev pub IsSize : List ℕ → ℕ → Type 0
IsSize text size = (size ≤ 32767) × (text ≡ decimal size)

-- KIND,CONTROL,SIZE gives these first four bytes of the attributes
abbrev pub IsForm : List ℕ → List ℕ → Type 0
IsForm text form = (parts : ℕ × (ℕ × ℕ)) × IsPair 44 IsKind (IsPair 44 IsControl IsSize) text parts × (form ≡ parts.0 ∷ parts.1.0 ∷ word parts.1.1)
