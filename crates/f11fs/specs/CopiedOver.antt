-- What a cp of the files of another image leaves.
use Rattle.std.specs.Prelude.{◌≡◌, ℕ, Bool, true, false, List, [], ◌∷◌, ◌++◌, Option, Some, None}
use Rattle.std.specs.Borrow.{Bor}
use Rattle.std.specs.Option.{option_map}
use Rattle.fs_words.specs.declared.actions.FromWords.{FromWords}
use Rattle.ods_base.specs.declared.file_id.Uic.{Uic}
use Rattle.ods_filing.specs.Filed.{Filed}
use Rattle.ods_space.specs.Layout.{VolumeLayout}
use Rattle.ods_upkeep.specs.CopiedFrom.{IsCopiedFrom}
use Rattle.ods_upkeep.specs.CopiedTree.{IsTreeCopied}
use Rattle.ods_upkeep.specs.declared.asked.CopyFrom.{CopyFrom}
use Rattle.f11fs.specs.Forms.{placing_for}
use Rattle.f11fs.specs.Given.{GivesVolume, HostGives}

-- whose rights are checked on the other volume: those of the user in force, if the words specify one; otherwise it is read as its keeper, without rights
abbrev pub reader_for : Bool → Uic → Option Uic
reader_for true user = Some user
reader_for false user = None

-- how files are copied: with the rights of this reader, if there is one; in one piece or anywhere, if it is specified; under the next version of each
-- name, and with their owners, if it is requested
abbrev pub copying_said : Option Uic → FromWords → CopyFrom
copying_said reader how = record { reader = reader; placing = option_map placing_for how.contiguous; next = how.next; owners = how.owners }

-- The files that these words but the last find on the volume of the named image are copied to the last one; `said` is whether the words specify a user.
abbrev pub CopiesOver : HostGives → Bool → FromWords → List (Bor (List ℕ)) → List ℕ → Filed → Filed → Type 0
CopiesOver Gives said how words stamp old new =
    (from : List (Bor (List ℕ))) × (to : Bor (List ℕ)) × (I : List (List ℕ)) × (L : VolumeLayout) × (words ≡ from ++ to ∷ []) × GivesVolume Gives how.from.now I L
    × IsCopiedFrom I L (copying_said (reader_for said old.user) how) stamp from to.now old new

-- The files in the directory of the first of two words on that volume, and below it, are copied to the directory of the second word, and below it.
abbrev pub CopiesTreeOver : HostGives → Bool → FromWords → List (Bor (List ℕ)) → List ℕ → Filed → Filed → Type 0
CopiesTreeOver Gives said how words stamp old new =
    (path : Bor (List ℕ)) × (to : Bor (List ℕ)) × (I : List (List ℕ)) × (L : VolumeLayout) × (words ≡ path ∷ to ∷ []) × GivesVolume Gives how.from.now I L
    × IsTreeCopied I L (copying_said (reader_for said old.user) how) stamp path.now to.now old new

-- what a cp of the files of another image leaves: the files of a tree, if it is requested
abbrev pub CopiesBelow : HostGives → Bool → Bool → FromWords → List (Bor (List ℕ)) → List ℕ → Filed → Filed → Type 0
CopiesBelow Gives true said how words stamp old new = CopiesTreeOver Gives said how words stamp old new
CopiesBelow Gives false said how words stamp old new = CopiesOver Gives said how words stamp old new
