-- The lines of a directory as listings show them.
use Rattle.std.specs.Prelude.{◌≡◌, ℕ, ◌+◌, ◌*◌, ◌^◌, ◌<◌, ◌≤◌, Bool, List, length, nat_le, IsPermutation, IsSortedByKey}
use Rattle.std.specs.List.{before_first, filter}
use Rattle.ods_base.specs.Name.{RadName, title, type_text}
use Rattle.ods_base.specs.Names.{is_of, lines_of}
use Rattle.ods_base.specs.declared.listed.Listed.{Listed}
use Rattle.ods_space.specs.Layout.{VolumeLayout}
use Rattle.ods_space.specs.Files.{AreInside, HasBlocks}
use Rattle.ods_space.specs.Reach.{ReachesBy}
use Rattle.ods_directory.specs.Entry.{used_entries}
use Rattle.ods_directory.specs.Lines.{good_lines, line_key}
use Rattle.ods_directory.specs.Names.{names_of}
use Rattle.ods_mount.specs.Faults.{IsDirectoryFile, contents_of, mark_at}
use Rattle.ods_mount.specs.Sound.{IsSoundBy}
use Rattle.ods_paths.specs.Order.{Line, listing_cmp}

-- the sort key of an entry in a listing: the text of its name, the text of its type, and its version
abbrev pub shown : Listed → Line
shown entry = record { name = title entry.name; kind = type_text entry.name; version = entry.version }

-- the first of these LBNs, up to the first one past an image of `len` blocks
abbrev pub up_to_end : ℕ → List ℕ → List ℕ
up_to_end len lbns = before_first (λ lbn. nat_le len lbn) lbns

-- The existing blocks of file n: up to the first block whose header is missing, or that is past the image. If the chain is whole and inside the
-- image, they are all its blocks.
pub record AreThere (I : List (List ℕ)) (L : VolumeLayout) (n : ℕ) (lbns : List ℕ) : Type 0 where
  pub blocks : List ℕ
  pub whole : Bool
  pub reached : ReachesBy I L n blocks whole
  pub front : lbns ≡ up_to_end (length I) blocks

-- These blocks of directory n exist and are in the image, and this is its end mark.
pub record IsRead (I : List (List ℕ)) (L : VolumeLayout) (n : ℕ) (lbns : List ℕ) (mark : ℕ) : Type 0 where
  pub there : AreThere I L n lbns
  pub inside : AreInside I lbns
  pub few : length lbns < 2 ^ 32
  pub end : mark ≡ mark_at I L n lbns
  pub before : mark ≤ 512 * length lbns

-- The shown entries of directory n: the good ones in its existing blocks, before its end mark.
pub record AreEntries (I : List (List ℕ)) (L : VolumeLayout) (n : ℕ) (entries : List Listed) : Type 0 where
  pub lbns : List ℕ
  pub there : AreThere I L n lbns
  pub all : entries ≡ good_lines (used_entries (contents_of I lbns) (mark_at I L n lbns))

-- whether the entry has this name, with any version
abbrev pub has_name : RadName → Listed → Bool
has_name name e = is_of name (line_key e)

-- the shown entries of directory n with this name, in their order
abbrev pub AreEntriesOf : List (List ℕ) → VolumeLayout → ℕ → RadName → List Listed → Type 0
AreEntriesOf I L n name found = (entries : List Listed) × AreEntries I L n entries × (found ≡ filter (has_name name) entries)

-- The number of entries that directory n skips: the used ones that are not good in its existing blocks, before its end mark.
abbrev pub ArePassedOver : List (List ℕ) → VolumeLayout → ℕ → ℕ → Type 0
ArePassedOver I L n bad = (lbns : List ℕ) × AreThere I L n lbns
    × (length (good_lines (used_entries (contents_of I lbns) (mark_at I L n lbns))) + bad ≡ length (used_entries (contents_of I lbns) (mark_at I L n lbns)))

-- the shown entries of directory n, in listing order
pub record IsListing (I : List (List ℕ)) (L : VolumeLayout) (n : ℕ) (lines : List Listed) : Type 0 where
  pub entries : List Listed
  pub are : AreEntries I L n entries
  pub all : IsPermutation entries lines
  pub order : IsSortedByKey shown listing_cmp lines

-- On a sound image a listing has exactly the names of the directory.
abbrev pub ListsTheNames : Type 0
ListsTheNames = (I : List (List ℕ)) (L : VolumeLayout) (n : ℕ) (lines : List Listed) → IsSoundBy I L → IsDirectoryFile I L n → IsListing I L n lines
    → (lbns : List ℕ) × HasBlocks I L n lbns × IsPermutation (lines_of (names_of (contents_of I lbns) (mark_at I L n lbns))) lines
