-- Folders of the host with all below them.
use Rattle.std.specs.Prelude.{◌≡◌, ◌⊎◌, ℕ, Bool, true, false, List, [], ◌∷◌, ◌++◌, length, String, string_bytes, IsSortedByKey, IsTrue, Result, Ok, Err}
use Rattle.std.specs.Fs.{IsDir, IsFile, file_type}
use Rattle.std.specs.List.{All, Contains}
use Rattle.std.specs.Ordering.{nat_cmp}
use Rattle.std.specs.Cmp.Lexicographic.{slice_cmp}
use Rattle.std.specs.declared.alloc.Global.{Global}
use Rattle.std.specs.declared.fs.attrs.Metadata.{Metadata}
use Rattle.fs_host.specs.Faults.{is_reason}
use Rattle.fs_host.specs.Names.{LacksSlash}
use Rattle.fs_host.specs.declared.host_fault.HostFault.{HostFault}
use Rattle.fs_host.specs.declared.host_tree.Pending.{Pending}
use Rattle.fs_host.specs.declared.host_tree.TreeEntry.{TreeEntry}
use Rattle.fs_host.specs.declared.host_tree.TreeKind.{TreeKind}
use Rattle.fs_host.specs.declared.host_tree.TreeKind.TheVariants.{Folder, File, Other, OwnTree, Unread}

-- names in their order as bytes
abbrev pub AreInOrder : List (String Global) → Type 0
AreInOrder names = IsSortedByKey (λ (name : String Global). string_bytes name) (slice_cmp nat_cmp) names

-- The path is the path of the folder, or is below it: it continues with a slash, or the folder ends with one.
abbrev pub IsAtOrBelow : List ℕ → List ℕ → Type 0
IsAtOrBelow path folder = (rest : List ℕ) × (path ≡ folder ++ rest) × ((rest ≡ []) ⊎ (((more : List ℕ) × (rest ≡ 47 ∷ more)) ⊎ ((front : List ℕ) × (folder ≡ front ++ 47 ∷ []))))

-- the path of a folder of a tree: it is empty, or ends with a slash
abbrev pub IsFolderPath : List ℕ → Type 0
IsFolderPath path = (path ≡ []) ⊎ ((front : List ℕ) × (path ≡ front ++ 47 ∷ []))

-- the kind that the host reports for a path: a file, a folder, or neither
abbrev pub IsSaid : Metadata → TreeKind → Type 0
IsSaid found File = IsFile (file_type found)
IsSaid found Folder = IsDir (file_type found)
IsSaid found Other = (¬ IsFile (file_type found)) × (¬ IsDir (file_type found))
IsSaid found OwnTree = ⊥
IsSaid found (Unread fault) = ⊥

-- a folder by whether it leads back into its own tree, if that is known
abbrev pub kind_of_folder : Result Bool HostFault → TreeKind
kind_of_folder (Ok false) = Folder
kind_of_folder (Ok true) = OwnTree
kind_of_folder (Err fault) = Unread fault

-- if a folder cannot be read, the host has a reason
abbrev pub HasReason : TreeKind → Type 0
HasReason File = Unit {0}
HasReason Folder = Unit {0}
HasReason Other = Unit {0}
HasReason OwnTree = Unit {0}
HasReason (Unread fault) = IsTrue (is_reason fault)

-- an entry of this path and this kind, whose own name begins at this index
abbrev pub IsEntry : List ℕ → ℕ → TreeKind → TreeEntry → Type 0
IsEntry path own kind entry = (string_bytes entry.path ≡ path) × (entry.own ≡ own) × (entry.kind ≡ kind)

-- The path of an entry of a folder: a folder has a slash after the name. A folder that cannot be read may have none.
abbrev pub HasPath : TreeKind → List ℕ → List ℕ → Type 0
HasPath Folder named path = path ≡ named ++ 47 ∷ []
HasPath File named path = path ≡ named
HasPath Other named path = path ≡ named
HasPath OwnTree named path = path ≡ named
HasPath (Unread fault) named path = (path ≡ named) ⊎ (path ≡ named ++ 47 ∷ [])

-- The entry is directly in the folder of this path: one name follows the path, its own.
abbrev pub LiesIn : List ℕ → TreeEntry → Type 0
LiesIn folder entry = (entry.own ≡ length folder) × HasReason entry.kind × ((name : List ℕ) × LacksSlash name × HasPath entry.kind (folder ++ name) (string_bytes entry.path))

-- the same for a folder that is still to be listed
abbrev pub WaitsIn : List ℕ → Pending → Type 0
WaitsIn folder waiting = (waiting.own ≡ length folder) × ((name : List ℕ) × LacksSlash name × (string_bytes waiting.path ≡ (folder ++ name) ++ 47 ∷ []))

-- An entry of a folder is listed, or is a folder and left for later.
abbrev pub ListsName : List ℕ → List TreeEntry → List TreeEntry → List Pending → List Pending → Type 0
ListsName folder old new left now_left =
    ((entry : TreeEntry) × LiesIn folder entry × (new ≡ old ++ entry ∷ []) × (now_left ≡ left))
    ⊎ ((waiting : Pending) × WaitsIn folder waiting × (new ≡ old) × (now_left ≡ left ++ waiting ∷ []))

-- The entries that are listed after a folder, and the folders in it that are still to be listed. A folder that cannot be read has neither.
abbrev pub Shows : TreeKind → List ℕ → List TreeEntry → List Pending → Type 0
Shows Folder folder below coming = All (LiesIn folder) below × All (WaitsIn folder) coming
Shows File folder below coming = ⊥
Shows Other folder below coming = ⊥
Shows OwnTree folder below coming = ⊥
Shows (Unread fault) folder below coming = IsTrue (is_reason fault) × (below ≡ []) × (coming ≡ [])

-- A folder is listed, and its contents after it. The folders in it are left for later.
pub record ListsFolder (own : ℕ) (folder : List ℕ) (old new : List TreeEntry) (left now_left : List Pending) : Type 0 where
  pub entry : TreeEntry
  pub below : List TreeEntry
  pub coming : List Pending
  pub path : string_bytes entry.path ≡ folder
  pub place : entry.own ≡ own
  pub shows : Shows entry.kind folder below coming
  pub listed : new ≡ old ++ entry ∷ below
  pub later : now_left ≡ left ++ coming

-- the tree itself: a folder with an empty path, or one that cannot be read
abbrev pub IsTop : TreeEntry → Type 0
IsTop entry = (string_bytes entry.path ≡ []) × (entry.own ≡ 0) × HasReason entry.kind × ((entry.kind ≡ Folder) ⊎ ((fault : HostFault) × (entry.kind ≡ Unread fault)))

-- one of these is a folder with this path
abbrev pub HaveFolder : List TreeEntry → List ℕ → Type 0
HaveFolder listed path = (folder : TreeEntry) × Contains listed folder × (folder.kind ≡ Folder) × (string_bytes folder.path ≡ path)

-- A tree is listed: first itself, and then each entry after the folder that contains it.
pub data IsTree : List TreeEntry → Type 0 where
  itself : (entry : TreeEntry) → IsTop entry → IsTree (entry ∷ [])
  with_one : (listed : List TreeEntry) (folder : List ℕ) (entry : TreeEntry) → IsTree listed → HaveFolder listed folder → LiesIn folder entry → IsTree (listed ++ entry ∷ [])
