-- What cp does for files of another volume: for each file that is found there a new one is created here, with the bytes of all its blocks, its
-- attributes, its protection, its date of creation, its name and its version, and on request its owner.
use Rattle.std.specs.Prelude.{◌≡◌, ℕ, Bool, true, not, ◌&&◌, List, [], ◌∷◌, length, Option, Some, None, if◌then◌else◌}
use Rattle.std.specs.Borrow.{Bor}
use Rattle.std.specs.List.{All, filter, list_all}
use Rattle.std.specs.Option.{option_or}
use Rattle.ods_base.specs.Block.{word}
use Rattle.ods_base.specs.Name.{RadName}
use Rattle.ods_base.specs.declared.file_id.Uic.{Uic}
use Rattle.ods_files.specs.Body.{Body, HasBody, bytes_in}
use Rattle.ods_files.specs.declared.form.Form.TheVariants.{Raw}
use Rattle.ods_space.specs.Layout.{VolumeLayout}
use Rattle.ods_request.specs.Stamps.{is_stamp}
use Rattle.ods_amend.specs.Access.{may_give}
use Rattle.ods_filing.specs.Filed.{Filed}
use Rattle.ods_shell.specs.Facts.{created_in}
use Rattle.ods_shell.specs.Named.{highest}
use Rattle.ods_shell.specs.Passed.{is_passed_over}
use Rattle.ods_shell.specs.Twins.{HaveTwins}
use Rattle.ods_shell.specs.declared.alone.Alone.TheVariants as alone
use Rattle.ods_shell.specs.declared.facts.Facts.{Facts}
use Rattle.ods_shell.specs.declared.found.EntryPlace.{EntryPlace}
use Rattle.ods_shell.specs.declared.found.Found.{Found}
use Rattle.ods_upkeep.specs.Begun.{placing_by}
use Rattle.ods_upkeep.specs.Copied.{IsCopyMade, IsCopyable}
use Rattle.ods_upkeep.specs.Kinds.{Copies}
use Rattle.ods_upkeep.specs.Legs.{IsLedGiving}
use Rattle.ods_upkeep.specs.Ready.{MayHaveGrown}
use Rattle.ods_upkeep.specs.Sources.{AreOfPath, AreSources}
use Rattle.ods_upkeep.specs.Target.{IsTarget}
use Rattle.ods_upkeep.specs.declared.asked.CopyFrom.{CopyFrom}
use Rattle.ods_upkeep.specs.declared.asked.Placing.{Placing}
use Rattle.ods_upkeep.specs.declared.target.Target.{Target}

-- the copied ones of these: no directories, and none of the other volume's own files, 1 to 5
abbrev pub copied_of : List Found → List Found
copied_of all = filter (λ f. not (is_passed_over f.facts)) all

-- each of these is passed over
abbrev pub are_passed_over : List Found → Bool
are_passed_over all = list_all (λ f. is_passed_over f.facts) all

-- this path does not find two entries of one directory with one name and version on the other volume
abbrev pub FindsNoTwins : List (List ℕ) → VolumeLayout → List ℕ → Type 0
FindsNoTwins I L path = (found : List Found) × AreOfPath I L (highest alone.Files) path found × ¬ HaveTwins found

-- The files that these paths find on the other volume, each name once, the highest version if they specify none. No path finds two entries of one
-- name, and if anything is found, not all of it is passed over.
abbrev pub AreFilesFrom : List (List ℕ) → VolumeLayout → List (Bor (List ℕ)) → List Found → Type 0
AreFilesFrom I L paths files =
    (all : List Found) × AreSources I L (highest alone.Files) paths all × All (λ path. FindsNoTwins I L path.now) paths × (are_passed_over all ≡ true → all ≡ []) × (files ≡ copied_of all)

-- the version of a file: the version of its entry, or without one the version in its header
abbrev pub own_version : Option EntryPlace → Facts → ℕ
own_version (Some place) facts = place.entry.version
own_version None facts = word facts.ident 4

-- the version under which a copy is entered: the given one; otherwise the file's own, or the next one if it is requested
abbrev pub version_for : Target → Found → Facts → Bool → Option ℕ
version_for to found facts next = if next then to.version else option_or to.version (Some (own_version found.place facts))

-- the target of a copy
abbrev pub target_for : Target → Found → Facts → Bool → Target
target_for to found facts next = record { directory = to.directory; name = to.name; version = version_for to found facts next }

-- the date of creation in a header, if it is valid; otherwise this stamp
abbrev pub stamp_for : Facts → List ℕ → List ℕ
stamp_for facts stamp = if is_stamp (created_in facts.ident) then created_in facts.ident else stamp

-- where the blocks of a copy are allocated: as specified; otherwise in one piece if the file is contiguous
abbrev pub placing_of : CopyFrom → Facts → Placing
placing_of how facts = placing_by how.placing (Some facts)

-- the owner that a copy receives from this user: that of the file, if owners are kept and the user may give it
abbrev pub owner_carried : Bool → Uic → Uic → Option Uic
owner_carried keeps user owner = if keeps && may_give user owner then Some owner else None

-- A file of the other volume is copied, which its reader may read. That volume has these blocks and this layout, with which the file has a whole chain.
pub record IsCopiedOver (I : List (List ℕ)) (L : VolumeLayout) (how : CopyFrom) (to : Target) (stamp : List ℕ) (found : Found) (old new : Filed) : Type 0 where
  pub facts : Facts
  pub name : RadName
  pub copyable : IsCopyable how.reader to found facts name
  pub body : Body
  pub held : HasBody I L facts.file.number body
  pub bytes : List ℕ
  pub all : bytes_in Raw body ≡ Some bytes
  pub made : IsCopyMade (placing_of how facts) (target_for to found facts how.next) name (stamp_for facts stamp) (owner_carried how.owners old.user facts.owner) facts bytes old new

-- these files are copied, in order
abbrev pub AreCopiedOver : List (List ℕ) → VolumeLayout → CopyFrom → Target → List ℕ → List Found → Filed → Filed → Type 0
AreCopiedOver I L how to stamp [] old new = new ≡ old
AreCopiedOver I L how to stamp (f ∷ found) old new = (mid : Filed) × IsCopiedOver I L how to stamp f old mid × AreCopiedOver I L how to stamp found mid new

-- These files are copied. Nothing else was done, except that INDEXF.SYS may have grown for them.
abbrev pub AreAllCopiedOver : List (List ℕ) → VolumeLayout → CopyFrom → Target → List ℕ → List Found → Filed → Filed → Type 0
AreAllCopiedOver I L how to stamp files old new = (ready : Filed) × MayHaveGrown (length files) old ready × AreCopiedOver I L how to stamp files ready new

-- Each file that these paths find on the other volume is copied to the target of the last path on this one.
abbrev pub IsCopiedFrom : List (List ℕ) → VolumeLayout → CopyFrom → List ℕ → List (Bor (List ℕ)) → List ℕ → Filed → Filed → Type 0
IsCopiedFrom I L how stamp paths to old new =
    (files : List Found) × ((target : Target) × AreFilesFrom I L paths files × IsTarget old.image old.layout (length files) to target
    × AreAllCopiedOver I L how target stamp files old new)

-- INDEXF.SYS may have grown, and requests of the kind of a cp made all the rest, with protections set in between, and owners if they are kept
abbrev pub IsLedFrom : Bool → Filed → Filed → Type 0
IsLedFrom owners old new = (count : ℕ) × ((ready : Filed) × MayHaveGrown count old ready × IsLedGiving owners Copies ready new)
