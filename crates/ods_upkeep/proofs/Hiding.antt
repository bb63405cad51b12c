-- Whether a directory hides entries, by the blocks and the end mark at hand.
use Rattle.std.proofs.Common.{ℕ, subst, Bool, true, false, List}
use Rattle.std.specs.Prelude.{MatchBool}
use Rattle.ods_space.specs.Layout.{VolumeLayout}
use Rattle.ods_space.specs.Files.{HasBlocks}
use Rattle.ods_space.proofs.Surveyed.{same_blocks}
use Rattle.ods_mount.specs.Faults.{IsDirectoryFile, contents_of, mark_at}
use Rattle.ods_walk.proofs.Directories.{IsReadAs}
use Rattle.ods_directory.specs.Hidden.{HasHidden}
use Rattle.ods_upkeep.specs.Hidden.{HidesEntries}

-- a directory has one list of blocks
hides_by : (I : List (List ℕ)) (L : VolumeLayout) (n : ℕ) (lbns : List ℕ) (b : Bool) → IsDirectoryFile I L n → HasBlocks I L n lbns
    → MatchBool b (HasHidden (contents_of I lbns) (mark_at I L n lbns)) (¬ HasHidden (contents_of I lbns) (mark_at I L n lbns)) → MatchBool b (HidesEntries I L n) (¬ HidesEntries I L n)
hides_by I L n lbns true is has used = record { directory = is; lbns = lbns; held = has; hidden = used }
hides_by I L n lbns false is has none = λ h.
    let P : List ℕ → Type 0 = λ xs. HasHidden (contents_of I xs) (mark_at I L n xs) in
    none (subst P (same_blocks I L n h.lbns lbns h.held has) h.hidden)

-- what is so of the blocks and the mark at hand is so of the directory
pub hides_as : (I : List (List ℕ)) (L : VolumeLayout) (n : ℕ) (lbns : List ℕ) (blocks : List (List ℕ)) (mark : ℕ) (b : Bool) → IsDirectoryFile I L n → HasBlocks I L n lbns → IsReadAs I L n lbns blocks mark
    → MatchBool b (HasHidden blocks mark) (¬ HasHidden blocks mark) → MatchBool b (HidesEntries I L n) (¬ HidesEntries I L n)
hides_as I L n lbns blocks mark b is has read used =
    let P : ℕ → Type 0 = λ m. MatchBool b (HasHidden blocks m) (¬ HasHidden blocks m) in
    let Q : List (List ℕ) → Type 0 = λ bs. MatchBool b (HasHidden bs (mark_at I L n lbns)) (¬ HasHidden bs (mark_at I L n lbns)) in
    hides_by I L n lbns b is has (subst Q read.blocks_are (subst P read.mark_is used))
