-- The result of cp --from: each file that was copied exists afterwards as it is on the other volume. A later copy changes nothing of it. Laws over
-- definitions only.
use Rattle.std.specs.Prelude.{◌≡◌, ◌⊎◌, ◌≤◌, ◌*◌, ℕ, true, false, List, [], ◌∷◌, length, drop, slice_range, Some, IfSome, Option}
use Rattle.std.specs.Borrow.{Bor}
use Rattle.std.specs.List.{All}
use Rattle.std.specs.FinMap as finmap
use Rattle.ods_base.specs.Image.{IsImage}
use Rattle.ods_base.specs.Name.{RadName}
use Rattle.ods_base.specs.declared.file_id.FileId.{FileId}
use Rattle.ods_space.specs.Layout.{VolumeLayout}
use Rattle.ods_records.specs.Attributes.{block, end_of}
use Rattle.ods_request.specs.Catalogue.{Catalogue, File, Plain, is_directory}
use Rattle.ods_request.specs.Steps.{new_ident}
use Rattle.ods_state.specs.Contents.{ShowsBy}
use Rattle.ods_files.specs.Body.{Body, HasBody, are_zeros}
use Rattle.ods_filing.specs.Filed.{Filed}
use Rattle.ods_shell.specs.Compared.{HasCompared}
use Rattle.ods_shell.specs.Facts.{AreFacts}
use Rattle.ods_shell.specs.declared.facts.Facts.{Facts}
use Rattle.ods_shell.specs.declared.folders.Directory.{Directory}
use Rattle.ods_shell.specs.declared.found.Found.{Found}
use Rattle.ods_upkeep.specs.Copied.{NamesCopy, true_for}
use Rattle.ods_upkeep.specs.CopiedFrom.{AreAllCopiedOver, AreFilesFrom, IsCopiedFrom, IsCopiedOver, stamp_for, version_for}
use Rattle.ods_upkeep.specs.CopiedTree.{AreFilesIn, IsTree, IsTreeCopied, depth_of, target_at}
use Rattle.ods_upkeep.specs.Laws.{IsEntryOf}
use Rattle.ods_upkeep.specs.Target.{IsTarget}
use Rattle.ods_upkeep.specs.declared.asked.CopyFrom.{CopyFrom}
use Rattle.ods_upkeep.specs.declared.target.Target.{Target}

-- The second catalogue has everything that the first has: each file that is no directory, unchanged, each directory, and each entry of one.
pub record HasAllOf (C D : Catalogue) : Type 0 where
  pub files : (id : FileId) (file : File) → finmap.get C.files id ≡ Some file → is_directory file.body ≡ false → finmap.get D.files id ≡ Some file
  pub directories : (id : FileId) (file : File) → finmap.get C.files id ≡ Some file → is_directory file.body ≡ true → (now : File) × ((finmap.get D.files id ≡ Some now) × (is_directory now.body ≡ true))
  pub entries : (dir : FileId) (name : RadName) (version : ℕ) (file : FileId) → IsEntryOf C dir name version file → IsEntryOf D dir name version file

-- The new blocks show a catalogue too, and each catalogue that they show has everything of each catalogue that the old blocks show.
abbrev pub LeavesAll : Filed → Filed → Type 0
LeavesAll old new = (C : Catalogue) → ShowsBy old.image old.layout C → ((D : Catalogue) × ShowsBy new.image new.layout D) × ((D : Catalogue) → ShowsBy new.image new.layout D → HasAllOf C D)

-- File n of one volume and file m of another have the same bytes, as `cmp` compares them: the bytes up to the end of file, or of all blocks if it is
-- past them.
pub record HaveSameBytes (I : List (List ℕ)) (L : VolumeLayout) (n : ℕ) (J : List (List ℕ)) (M : VolumeLayout) (m : ℕ) : Type 0 where
  pub bytes : List ℕ
  pub here : HasCompared I L n bytes
  pub there : HasCompared J M m bytes
  -- neither has others
  pub only : (x y : List ℕ) → HasCompared I L n x → HasCompared J M m y → x ≡ y

-- `cmp` finds no difference: the two have the same attributes too.
pub record AreAlike (I : List (List ℕ)) (L : VolumeLayout) (n : ℕ) (J : List (List ℕ)) (M : VolumeLayout) (m : ℕ) : Type 0 where
  pub attributes : (facts others : Facts) → AreFacts I L n facts → AreFacts J M m others → facts.attributes ≡ others.attributes
  pub bytes : HaveSameBytes I L n J M m

-- The attributes are true for this number of blocks: they were never written; or the end of file is within the blocks, and F.HIBK is their count.
abbrev pub AreTrueOf : List ℕ → ℕ → Type 0
AreTrueOf own blocks = (are_zeros own ≡ true) ⊎ ((end_of own ≤ 512 * blocks) × (slice_range own 4 8 ≡ block blocks))

-- The catalogue has a file under this ID, with these attributes and blocks, and with this name and this stamp in its ident. An entry of the directory
-- names it, under the given version.
pub record IsCopyIn (D : Catalogue) (dir : FileId) (name : RadName) (said : Option ℕ) (stamp attributes : List ℕ) (blocks : List (List ℕ)) (id : FileId) : Type 0 where
  pub file : File
  pub there : finmap.get D.files id ≡ Some file
  pub body : file.body ≡ Plain attributes blocks
  pub number : ℕ
  pub ident : file.ident ≡ new_ident name number stamp
  pub version : ℕ
  pub entry : IsEntryOf D dir name version id
  pub as_said : IfSome said (λ v. version ≡ v)

-- A file of the other volume has a copy here. That volume has these blocks and this layout, with which the file has a whole chain.
pub record HasCopy (I : List (List ℕ)) (L : VolumeLayout) (how : CopyFrom) (to : Target) (stamp : List ℕ) (found : Found) (new : Filed) : Type 0 where
  pub facts : Facts
  pub known : found.facts ≡ Some facts
  pub body : Body
  pub held : HasBody I L facts.file.number body
  -- the name that the copy has, and its ID
  pub name : RadName
  pub named : NamesCopy to found facts name
  pub id : FileId
  -- each catalogue that the blocks show has it in the directory of the target: with all blocks of the other volume's file, its attributes, and its
  -- date
  pub there : (D : Catalogue) → ShowsBy new.image new.layout D
      → IsCopyIn D to.directory name (version_for to found facts how.next) (stamp_for facts stamp) (true_for facts.attributes facts.blocks) body.blocks id
  -- with the protection of the other volume's file
  pub protection : (D : Catalogue) (file : File) → ShowsBy new.image new.layout D → finmap.get D.files id ≡ Some file → file.protection ≡ facts.protection
  -- `cmp` finds the same bytes, and no difference if the attributes of the other volume's file are true for its blocks
  pub same : HaveSameBytes I L facts.file.number new.image new.layout id.number
  pub alike : AreTrueOf facts.attributes facts.blocks → AreAlike I L facts.file.number new.image new.layout id.number

-- what is known of what was found holds for these blocks and this layout
abbrev pub IsKnownBy : List (List ℕ) → VolumeLayout → Found → Type 0
IsKnownBy I L found = (facts : Facts) → found.facts ≡ Some facts → AreFacts I L facts.file.number facts

-- A file of another volume that is copied has a copy here, and everything that was here is left. The blocks before show some catalogue, like the
-- blocks of each sound volume.
abbrev pub CopyIsThere : Type 0
CopyIsThere = (I : List (List ℕ)) (L : VolumeLayout) (how : CopyFrom) (to : Target) (stamp : List ℕ) (found : Found) (old new : Filed) (C : Catalogue) → IsImage I → IsKnownBy I L found
    → ShowsBy old.image old.layout C → IsCopiedOver I L how to stamp found old new → HasCopy I L how to stamp found new × LeavesAll old new

-- If files of another volume are copied in order, each of them has a copy here at the end.
abbrev pub CopiesAreThere : Type 0
CopiesAreThere = (I : List (List ℕ)) (L : VolumeLayout) (how : CopyFrom) (to : Target) (stamp : List ℕ) (files : List Found) (old new : Filed) (C : Catalogue) → IsImage I → All (IsKnownBy I L) files
    → ShowsBy old.image old.layout C → AreAllCopiedOver I L how to stamp files old new → All (λ found. HasCopy I L how to stamp found new) files × LeavesAll old new

-- The result of cp --from: the files that the paths find on the other volume have copies in the target of the last path. Everything that was here is
-- left.
abbrev pub IsLeftFrom : List (List ℕ) → VolumeLayout → CopyFrom → List ℕ → List (Bor (List ℕ)) → List ℕ → Filed → Filed → Type 0
IsLeftFrom I L how stamp paths to old new =
    (files : List Found) × ((target : Target) × AreFilesFrom I L paths files × IsTarget old.image old.layout (length files) to target
    × All (λ found. HasCopy I L how target stamp found new) files × LeavesAll old new)

-- After cp --from each file that its paths find on the other volume has a copy here. So `cmp` finds no difference in any of them whose attributes are
-- true for its blocks.
abbrev pub CopiedIsThere : Type 0
CopiedIsThere = (I : List (List ℕ)) (L : VolumeLayout) (how : CopyFrom) (stamp : List ℕ) (paths : List (Bor (List ℕ))) (to : List ℕ) (old new : Filed) (C : Catalogue) → IsImage I
    → ShowsBy old.image old.layout C → IsCopiedFrom I L how stamp paths to old new → IsLeftFrom I L how stamp paths to old new

-- In this catalogue the names reach one directory from another, each by an entry.
abbrev pub IsWayIn : Catalogue → FileId → List RadName → FileId → Type 0
IsWayIn D dir [] place = place ≡ dir
IsWayIn D dir (name ∷ names) place = (next : FileId) × ((version : ℕ) × IsEntryOf D dir name version next × IsWayIn D next names place)

-- The files of a directory of the other volume have copies here: in the directory that its names, after this number of them, reach from this one.
pub record HasDirectory (I : List (List ℕ)) (L : VolumeLayout) (how : CopyFrom) (stamp : List ℕ) (dir : FileId) (depth : ℕ) (directory : Directory) (new : Filed) : Type 0 where
  pub place : FileId
  pub way : (D : Catalogue) → ShowsBy new.image new.layout D → IsWayIn D dir (drop depth directory.names.items) place
  pub files : List Found
  pub are : AreFilesIn I L directory files
  pub copies : All (λ found. HasCopy I L how (target_at place) stamp found new) files

-- The result of cp --from -r: the files in the directories of the path, and below them, have copies in the target and below it. Everything that was
-- here is left.
abbrev pub IsTreeLeftFrom : List (List ℕ) → VolumeLayout → CopyFrom → List ℕ → List ℕ → List ℕ → Filed → Filed → Type 0
IsTreeLeftFrom I L how stamp path to old new =
    (tree : List Directory) × ((target : Target) × IsTree I L path tree × IsTarget old.image old.layout 2 to target
    × All (λ directory. HasDirectory I L how stamp target.directory (depth_of tree) directory new) tree × LeavesAll old new)

-- After cp --from -r each file in a directory of the path on the other volume, or below one, has a copy here under the same names.
abbrev pub CopiedTreeIsThere : Type 0
CopiedTreeIsThere = (I : List (List ℕ)) (L : VolumeLayout) (how : CopyFrom) (stamp path to : List ℕ) (old new : Filed) (C : Catalogue) → IsImage I
    → ShowsBy old.image old.layout C → IsTreeCopied I L how stamp path to old new → IsTreeLeftFrom I L how stamp path to old new
