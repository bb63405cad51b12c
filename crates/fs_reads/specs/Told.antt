-- The lines of `check` about files, followed by their paths; and the texts for directories that are read in part.
use Rattle.std.specs.Prelude.{◌≡◌, ℕ, ◌==◌, ◌&&◌, not, if◌then◌else◌, Bool, true, false, List, ◌∷◌, ◌++◌, [], codes, length, Option, Some, None}
use Rattle.std.specs.Fmt.{decimal}
use Rattle.ods_base.specs.declared.listed.Listed.{Listed}
use Rattle.ods_shell.specs.Named.{id_of}
use Rattle.ods_space.specs.Layout.{VolumeLayout}
use Rattle.ods_walk.specs.Listing.{IsListing}
use Rattle.ods_shell.specs.ByNumber.{NamedFiles, path_noted}
use Rattle.ods_shell.specs.Json.{object_line, with_text}
use Rattle.serde_json.specs.Data.{Members, no_members}

-- the path of the file that a line describes, if there is one, and names reach it
abbrev pub path_told : Option NamedFiles → Option ℕ → Option (List ℕ)
path_told None file = None
path_told (Some names) None = None
path_told (Some names) (Some n) = path_noted names n

-- the paths of one file, or of two, after a line: each after two spaces, with `-` for the first if only the second is known
abbrev pub paths_behind : Option (List ℕ) → Option (List ℕ) → List ℕ
paths_behind None None = []
paths_behind (Some a) None = codes "  " ++ a
paths_behind None (Some b) = codes "  -  " ++ b
paths_behind (Some a) (Some b) = codes "  " ++ (a ++ (codes "  " ++ b))

-- the members of an object with these paths
abbrev pub with_paths : Option (List ℕ) → Option (List ℕ) → Members → Members
with_paths None None members = members
with_paths (Some a) None members = with_text (codes "path") a members
with_paths None (Some b) members = with_text (codes "other_path") b members
with_paths (Some a) (Some b) members = with_text (codes "other_path") b (with_text (codes "path") a members)

-- a line followed by the paths, or an object with the text of this name and the paths
abbrev pub told_line : Bool → List ℕ → List ℕ → Option (List ℕ) → Option (List ℕ) → List ℕ
told_line false name line first second = line ++ (paths_behind first second ++ 10 ∷ [])
told_line true name line first second = object_line (with_paths first second (with_text name line no_members))

-- the text for a directory, by its ID, of which one entry or more are passed over
abbrev pub one_bad_entry : ℕ → ℕ → List ℕ
one_bad_entry number sequence = codes "directory " ++ (decimal number ++ (codes "," ++ (decimal sequence ++ codes ": a bad entry is passed over")))

abbrev pub more_bad_entries : ℕ → ℕ → ℕ → List ℕ
more_bad_entries number sequence bad = codes "directory " ++ (decimal number ++ (codes "," ++ (decimal sequence ++ (codes ": " ++ (decimal bad ++ codes " bad entries are passed over")))))

abbrev pub bad_entries_text : ℕ → ℕ → ℕ → List ℕ
bad_entries_text number sequence bad = if bad == 1 then one_bad_entry number sequence else more_bad_entries number sequence bad

-- the text for a file with the type of a directory, by its ID, of which no entry is good
abbrev pub no_directory_text : ℕ → ℕ → ℕ → List ℕ
no_directory_text number sequence bad = codes "file " ++ (decimal number ++ (codes "," ++ (decimal sequence ++ (codes ": not a directory: it has no good entry, and " ++ (decimal bad ++ codes " bad")))))

-- Number n belongs to no directory, whatever its type says: it shows none of these lines, and is not the master directory.
abbrev pub is_no_directory : ℕ → List Listed → Bool
is_no_directory n lines = not (n == 4) && (length lines == 0)

-- the text for directory n, which has this number of bad entries
abbrev pub SaysPassed : List (List ℕ) → VolumeLayout → ℕ → ℕ → List ℕ → Type 0
SaysPassed I L n bad text = (lines : List Listed) × IsListing I L n lines
    × (text ≡ (if is_no_directory n lines then no_directory_text n (id_of I L n).sequence bad else bad_entries_text n (id_of I L n).sequence bad))
