-- Which entries of a tree of the host are put, and why an entry is not.
use Rattle.std.specs.Prelude.{◌≡◌, ◌≢◌, ◌⊎◌, ◌++◌, ◌∷◌, ℕ, Bool, true, false, List, [], Option, Some, None, codes, string_bytes}
use Rattle.std.specs.Fs.{IsFile, file_type, metadata_len}
use Rattle.std.specs.List.{All}
use Rattle.std.specs.declared.fs.attrs.Metadata.{Metadata}
use Rattle.fs_host.specs.Texts.{shown_text}
use Rattle.fs_host.specs.declared.host_tree.TreeEntry.{TreeEntry}
use Rattle.fs_host.specs.declared.host_tree.TreeKind.{TreeKind}
use Rattle.fs_host.specs.declared.host_tree.TreeKind.TheVariants as tree_kind
use Rattle.fs_reads.specs.declared.stop.WordFault.{WordFault}
use Rattle.fs_reads.specs.declared.stop.WordFault.TheVariants.{Large, LargeStream}
use Rattle.ods_shell.specs.declared.status.Status.{Status}
use Rattle.ods_shell.specs.declared.status.Status.TheVariants.{Host, Words}
use Rattle.ods_upkeep.specs.Pieces.{HasStatus}
use Rattle.ods_upkeep.specs.Refused.{no_memory}
use Rattle.ods_upkeep.specs.TreeNames.{SaysNoPlace, SaysPlace}
use Rattle.ods_upkeep.specs.declared.failure.Why.{Why}
use Rattle.f11fs.specs.declared.judging_tree.TreeFault.{TreeFault}
use Rattle.f11fs.specs.declared.judging_tree.TreeFault.TheVariants.{Name, Folder, Other, OwnTree, Unread}

-- the path of an entry in a tree specifies a location on the volume
abbrev pub IsPlaced : TreeEntry → Type 0
IsPlaced entry = SaysPlace (string_bytes entry.path)

-- a command that is refused for this fault has that exit status
abbrev pub HasTreeStatus : TreeFault → Status → Type 0
HasTreeStatus (Name why) s = HasStatus why s
HasTreeStatus Folder s = s ≡ Words
HasTreeStatus Other s = s ≡ Host
HasTreeStatus OwnTree s = s ≡ Host
HasTreeStatus (Unread fault) s = s ≡ Host

-- an entry with this fault may be left out: it has no name on the volume, or is neither a file nor a folder
abbrev pub may_be_left : TreeFault → Bool
may_be_left (Name why) = true
may_be_left Folder = true
may_be_left Other = true
may_be_left OwnTree = false
may_be_left (Unread fault) = false

-- why an entry of this kind is not put
abbrev pub fault_of_kind : TreeKind → Option TreeFault
fault_of_kind tree_kind.Folder = None
fault_of_kind tree_kind.File = None
fault_of_kind tree_kind.Other = Some Other
fault_of_kind tree_kind.OwnTree = Some OwnTree
fault_of_kind (tree_kind.Unread fault) = Some (Unread fault)

-- The path specifies no location on the volume, for this reason. Out of memory is no such reason.
abbrev pub IsUnplaced : List ℕ → Why → Type 0
IsUnplaced path why = SaysNoPlace path why × (why ≢ no_memory)

-- an entry of a tree that is put: a folder or a file whose path specifies a location
abbrev pub IsKept : TreeEntry → Type 0
IsKept entry = ((entry.kind ≡ tree_kind.Folder) ⊎ (entry.kind ≡ tree_kind.File)) × IsPlaced entry

-- an entry that is not put: it is neither a folder nor a file, or its path specifies no location
abbrev pub IsLeft : TreeEntry → Type 0
IsLeft entry = ((entry.kind ≢ tree_kind.Folder) × (entry.kind ≢ tree_kind.File)) ⊎ ((why : Why) × IsUnplaced (string_bytes entry.path) why)

-- exactly the entries of these that are put, in their order
abbrev pub AreKept : List TreeEntry → List TreeEntry → Type 0
AreKept [] kept = kept ≡ []
AreKept (entry ∷ listed) kept = (IsKept entry × (rest : List TreeEntry) × (kept ≡ entry ∷ rest) × AreKept listed rest) ⊎ (IsLeft entry × AreKept listed kept)

-- the path of a folder without the slashes at its end
abbrev pub IsWithoutSlashes : List ℕ → List ℕ → Type 0
IsWithoutSlashes folder front = ((slashes : List ℕ) × (folder ≡ front ++ slashes) × All (λ c. c ≡ 47) slashes) × ((before : List ℕ) → front ≢ before ++ 47 ∷ [])

-- the path on the host of an entry of a folder: the path of the folder, a slash, and the path in it
abbrev pub IsHostPath : List ℕ → List ℕ → List ℕ → Type 0
IsHostPath folder [] text = text ≡ folder
IsHostPath folder (c ∷ path) text = (front : List ℕ) × IsWithoutSlashes folder front × (text ≡ front ++ (47 ∷ c ∷ path))

-- a line that states why a path is not put
abbrev pub tree_line : List ℕ → List ℕ → List ℕ
tree_line path why = shown_text path ++ (codes ": " ++ (why ++ codes "\n"))

-- A line is added that states why an entry of a folder is not put. The texts of faults have no clause.
abbrev pub AddsLine : List ℕ → List ℕ → List ℕ → List ℕ → Type 0
AddsLine folder path old new = (host : List ℕ) × IsHostPath folder path host × ((why : List ℕ) × (new ≡ old ++ tree_line host why))

-- the text for a host file larger than the room: for a plain file its number of bytes, for any other only the room
abbrev pub IsTooLarge : Metadata → ℕ → WordFault → Type 0
IsTooLarge found room fault = (IsFile (file_type found) × (fault ≡ Large (metadata_len found) room)) ⊎ ((¬ IsFile (file_type found)) × (fault ≡ LargeStream room))

-- Why an entry of a tree is not put. If its path specifies a location its kind is the reason, otherwise an invalid name, which may belong to a folder
-- on the way.
abbrev pub IsFault : TreeEntry → Bool → Option TreeFault → Type 0
IsFault entry skip fault =
    (IsPlaced entry × (fault ≡ fault_of_kind entry.kind))
    ⊎ ((path_why : Why) × IsUnplaced (string_bytes entry.path) path_why
    × ((fault ≡ None) ⊎ ((own : List ℕ) × (why : Why) × IsUnplaced own why × ((fault ≡ Some Folder) ⊎ (fault ≡ Some (Name why))))))
