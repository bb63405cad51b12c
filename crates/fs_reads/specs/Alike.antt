-- Which files of two volumes differ, and how.
use Rattle.std.specs.Prelude.{◌≡◌, ◌≢◌, ℕ, List, Option, Some, None, ◌⊎◌, codes, string_bytes}
use Rattle.ods_base.specs.declared.file_id.FileId.{FileId}
use Rattle.ods_space.specs.Layout.{Disk}
use Rattle.ods_space.specs.declared.disk.Disk.{Disk as Lent}
use Rattle.ods_shell.specs.Compared.{HasCompared}
use Rattle.ods_shell.specs.Facts.{AreFacts}
use Rattle.ods_shell.specs.declared.facts.Facts.{Facts}
use Rattle.ods_shell.specs.declared.facts.Kind.TheVariants.{Directory}
use Rattle.fs_reads.specs.declared.comparing.Known.{Known}

-- blocks that are lent with their layout
abbrev pub held : Lent → Disk
held D = record { image = D.image.now; layout = D.layout.now }

-- the path is this one
abbrev pub has_path : List ℕ → Known → Type 0
has_path path known = string_bytes known.path ≡ path

-- the bytes of two compared files are in this relation
abbrev pub HaveBytes : Disk → Facts → Disk → Facts → (List ℕ → List ℕ → Type 0) → Type 0
HaveBytes D facts E others Are = (x : List ℕ) × ((y : List ℕ) × (HasCompared D.image D.layout facts.file.number x × (HasCompared E.image E.layout others.file.number y × Are x y)))

-- The reported difference of two files of these facts: none for two directories, and for other files with the same attributes and the same bytes.
-- Otherwise it is the first in which they differ.
abbrev pub IsTold : Disk → Facts → Disk → Facts → Option (List ℕ) → Type 0
IsTold D facts E others None =
    ((facts.kind ≡ Directory) × (others.kind ≡ Directory)) ⊎ ((facts.attributes ≡ others.attributes) × HaveBytes D facts E others (λ x y. x ≡ y))
IsTold D facts E others (Some word) =
    ((word ≡ codes "attributes differ") × (facts.attributes ≢ others.attributes))
    ⊎ (((word ≡ codes "bytes differ") × ((facts.attributes ≡ others.attributes) × HaveBytes D facts E others (λ x y. x ≢ y)))
    ⊎ ((word ≡ codes "not both have bytes") × (facts.attributes ≡ others.attributes)))

-- these are the facts of the file with this ID
abbrev pub AreOf : Disk → FileId → Facts → Type 0
AreOf D file facts = AreFacts D.image D.layout file.number facts × (facts.file ≡ file)

-- there is a file with this ID
abbrev pub IsNamedBy : Disk → FileId → Type 0
IsNamedBy D file = (facts : Facts) × AreOf D file facts

-- the reported difference of the files with these IDs
abbrev pub AreCompared : Disk → FileId → Disk → FileId → Option (List ℕ) → Type 0
AreCompared D one E file word =
    ((word ≡ None) × (IsNamedBy D one → ⊥) × (IsNamedBy E file → ⊥))
    ⊎ (((facts : Facts) × ((others : Facts) × (AreOf D one facts × (AreOf E file others × IsTold D facts E others word))))
    ⊎ (word ≡ Some (codes "only one names a file")))
