-- The version before a file that is put: the file that has its name in the directory.
use Rattle.std.specs.Prelude.{◌≡◌, ◌≢◌, ◌⊎◌, ◌≤◌, ◌==◌, nat_le, ℕ, if◌then◌else◌, List, Option, Some, None, MatchOption}
use Rattle.std.specs.List.{Contains}
use Rattle.ods_base.specs.Name.{RadName}
use Rattle.ods_base.specs.declared.file_id.FileId.{FileId}
use Rattle.ods_base.specs.declared.listed.Listed.{Listed}
use Rattle.ods_mount.specs.Faults.{IsDirectoryFile}
use Rattle.ods_space.specs.Layout.{VolumeLayout}
use Rattle.ods_shell.specs.Facts.{AreFacts}
use Rattle.ods_shell.specs.declared.facts.Facts.{Facts}
use Rattle.ods_shell.specs.declared.facts.Kind.TheVariants.{Directory}
use Rattle.ods_walk.specs.Listing.{AreEntriesOf}

-- none of these entries has the given version; without a version there is none at all
abbrev pub HasNoPick : Option ℕ → List Listed → Type 0
HasNoPick None entries = (e : Listed) → ¬ Contains entries e
HasNoPick (Some said) entries = (e : Listed) → Contains entries e → e.version ≢ said

-- one of these entries: with the given version, or else with the highest
abbrev pub IsPick : Option ℕ → List Listed → Listed → Type 0
IsPick None entries e = Contains entries e × ((other : Listed) → Contains entries other → other.version ≤ e.version)
IsPick (Some said) entries e = Contains entries e × (e.version ≡ said)

-- the one of these entries, if there is one
abbrev pub IsPicked : Option ℕ → List Listed → Option Listed → Type 0
IsPicked said entries picked = MatchOption picked (HasNoPick said entries) (IsPick said entries)

-- the one of two entries that is picked
abbrev pub pick_of : Option ℕ → Option Listed → Listed → Option Listed
pick_of (Some said) before e = if e.version == said then Some e else before
pick_of None None e = Some e
pick_of None (Some before) e = if nat_le before.version e.version then Some e else Some before

-- the attributes of the file with this ID; none if it is a directory, or no file has the ID
abbrev pub AreAttributesOf : List (List ℕ) → VolumeLayout → FileId → Option (List ℕ) → Type 0
AreAttributesOf I L file None = (facts : Facts) → AreFacts I L file.number facts → facts.file ≡ file → facts.kind ≡ Directory
AreAttributesOf I L file (Some own) = (facts : Facts) × AreFacts I L file.number facts × (facts.file ≡ file) × (facts.kind ≢ Directory) × (own ≡ facts.attributes)

-- the attributes of the file of the picked entry, if there is one
abbrev pub AreOfPick : List (List ℕ) → VolumeLayout → Option Listed → Option (List ℕ) → Type 0
AreOfPick I L None own = own ≡ None
AreOfPick I L (Some e) own = AreAttributesOf I L e.file own

-- The attributes of the version before: of the file that has the name in directory n, with the given version or else the highest.
abbrev pub IsBefore : List (List ℕ) → VolumeLayout → ℕ → RadName → Option ℕ → Option (List ℕ) → Type 0
IsBefore I L n name said own =
    ((¬ IsDirectoryFile I L n) × (own ≡ None))
    ⊎ ((entries : List Listed) × AreEntriesOf I L n name entries × ((picked : Option Listed) × IsPicked said entries picked × AreOfPick I L picked own))
