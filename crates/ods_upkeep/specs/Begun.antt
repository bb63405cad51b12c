-- The lookups of put before the first file.
use Rattle.std.specs.Prelude.{◌≡◌, ◌≢◌, ◌<◌, ℕ, nat_le, Bool, true, false, not, ◌&&◌, if◌then◌else◌, List, [], ◌∷◌, codes, slice_index, Option, Some, None, unwrap_or}
use Rattle.std.specs.Borrow.{Bor}
use Rattle.std.specs.Option.{option_map}
use Rattle.ods_base.specs.declared.file_id.FileId.{FileId}
use Rattle.ods_base.specs.declared.file_id.Uic.{Uic}
use Rattle.ods_space.specs.Layout.{VolumeLayout}
use Rattle.ods_shell.specs.declared.alone.Alone.TheVariants as alone
use Rattle.ods_shell.specs.Named.{highest}
use Rattle.ods_shell.specs.declared.facts.Facts.{Facts}
use Rattle.ods_shell.specs.declared.facts.Kind.TheVariants.{Directory}
use Rattle.ods_shell.specs.declared.found.Found.{Found}
use Rattle.ods_upkeep.specs.Counted.{AreCounts}
use Rattle.ods_upkeep.specs.Left.{InPut}
use Rattle.ods_upkeep.specs.Sources.{AreOfPath}
use Rattle.ods_upkeep.specs.Target.{IsTarget}
use Rattle.ods_upkeep.specs.Versions.{AreHighest, Noted}
use Rattle.ods_upkeep.specs.declared.asked.Placing.{Placing}
use Rattle.ods_upkeep.specs.declared.asked.Placing.TheVariants.{Anywhere, InOnePiece}
use Rattle.ods_upkeep.specs.declared.asked.PutForm.{PutForm}
use Rattle.ods_upkeep.specs.declared.asked.PutForm.TheVariants as form

-- the path of the target: the given one, or the path of the master directory
abbrev pub path_to : Option (Bor (List ℕ)) → List ℕ
path_to None = codes "[0,0]"
path_to (Some said) = said.now

-- for several files the target is looked up as for two
abbrev pub count_of : Bool → ℕ
count_of several = if several then 2 else 1

-- This is known of the one file that the path selects, the highest version if it specifies none. It is no directory, and its number is above 2.
pub record IsLikeable (I : List (List ℕ)) (L : VolumeLayout) (path : List ℕ) (facts : Facts) : Type 0 where
  pub found : Found
  pub one : AreOfPath I L (highest alone.Refused) path (found ∷ [])
  pub known : found.facts ≡ Some facts
  pub plain : facts.kind ≢ Directory
  pub above : 2 < facts.file.number

-- the facts of the model file of the new files, if one is given
abbrev pub IsLike : List (List ℕ) → VolumeLayout → Option (Bor (List ℕ)) → Option Facts → Type 0
IsLike I L None like = like ≡ None
IsLike I L (Some path) like = (facts : Facts) × (like ≡ Some facts) × IsLikeable I L path.now facts

-- files keep the form of the version before: no form is given, and no model file
abbrev pub keeps_form : PutForm → Option (Bor (List ℕ)) → Bool
keeps_form form.ByContents None = true
keeps_form form.ByContents (Some like) = false
keeps_form form.Text like = false
keeps_form form.Binary like = false
keeps_form (form.Said four) like = false

-- the file is contiguous: bit 7 of H.UCHA is set
abbrev pub is_contiguous : Facts → Bool
is_contiguous facts = nat_le 128 facts.user_char

-- Where the blocks of the new files are allocated: as specified; otherwise in one piece if the model file is contiguous; otherwise not determined.
abbrev pub placing_asked : Option Placing → Option Facts → Option Placing
placing_asked (Some said) like = Some said
placing_asked None None = None
placing_asked None (Some facts) = if is_contiguous facts then Some InOnePiece else None

-- the same, and anywhere if it is not determined
abbrev pub placing_by : Option Placing → Option Facts → Placing
placing_by said like = unwrap_or (placing_asked said like) Anywhere

-- if files are replaced, how often entries name each file
abbrev pub AreNames : List (List ℕ) → VolumeLayout → Bool → Option (List ℕ) → Type 0
AreNames I L false names = names ≡ None
AreNames I L true names = (counts : List ℕ) × (names ≡ Some counts) × AreCounts I L (slice_index counts)

-- the highest versions of the names in a directory, if they are needed
abbrev pub AreKept : List (List ℕ) → VolumeLayout → Bool → FileId → Option Noted → Type 0
AreKept I L false dir kept = kept ≡ None
AreKept I L true dir kept = (noted : Noted) × (kept ≡ Some noted) × AreHighest I L dir.number noted

-- The lookups of put on a volume: the target, the model file, and counts of names or highest versions. Everything else is as requested.
pub record IsBegun (I : List (List ℕ)) (L : VolumeLayout) (stamp : List ℕ) (to : Option (Bor (List ℕ))) (several : Bool) (form : PutForm) (like : Option (Bor (List ℕ))) (placing : Option Placing) (replace : Bool) (owner : Option Uic) (begun : InPut) : Type 0 where
  pub target : IsTarget I L (count_of several) (path_to to) begun.target
  pub stamped : begun.stamp ≡ stamp
  pub formed : begun.form ≡ form
  pub facts : Option Facts
  pub liked : IsLike I L like facts
  pub attributed : begun.like ≡ option_map (λ (f : Facts). f.attributes) facts
  pub keeping : begun.keeps ≡ keeps_form form like
  pub placed : begun.placing ≡ placing_asked placing facts
  pub owned : begun.owner ≡ owner
  pub named : AreNames I L replace begun.names
  pub kept : AreKept I L (several && not replace) begun.target.directory begun.highest
