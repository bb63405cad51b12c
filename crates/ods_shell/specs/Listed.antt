-- The lines of `ls`, with and without headings, and the last line; and the objects of `ls` as JSON.
use Rattle.std.specs.Prelude.{◌≡◌, ℕ, ◌+◌, ◌-◌, ◌^◌, min, nat_le, Bool, if◌then◌else◌, List, [], ◌∷◌, ◌++◌, codes, length, Option, Some, None}
use Rattle.std.specs.List.{range_with_len}
use Rattle.std.specs.Fmt.{decimal}
use Rattle.ods_space.specs.Layout.{VolumeLayout}
use Rattle.ods_walk.specs.declared.tables.Line.{Line}
use Rattle.ods_shell.specs.Json.{entry_members, object_line}
use Rattle.ods_shell.specs.Lines.{counted_word, entry_line, with_headings}
use Rattle.ods_shell.specs.Named.{IsKnown}
use Rattle.ods_shell.specs.There.{line_path}
use Rattle.ods_shell.specs.declared.facts.Facts.{Facts}
use Rattle.ods_shell.specs.declared.folders.Directory.{Directory}
use Rattle.ods_shell.specs.declared.ls.Columns.{Columns}

-- the number of blocks of a file; 0 if it is unknown
abbrev pub blocks_of : Option Facts → ℕ
blocks_of None = 0
blocks_of (Some facts) = facts.blocks

-- This is the text of the lines. `blocks` is the number of blocks of the files that they name, up to 2^64 - 1.
abbrev pub AreListed : List (List ℕ) → VolumeLayout → Columns → List Line → List ℕ → ℕ → Type 0
AreListed I L columns [] text blocks = (text ≡ []) × (blocks ≡ 0)
AreListed I L columns (line ∷ lines) text blocks = (known : Option Facts) × (rest : List ℕ) × (more : ℕ) × IsKnown I L line.entry.file known × AreListed I L columns lines rest more
    × (text ≡ entry_line line.entry known columns ++ rest) × (blocks ≡ min (blocks_of known + more) (2 ^ 64 - 1))

-- the last line: the numbers of files and blocks
unfoldable pub total_line : ℕ → ℕ → List ℕ
total_line files blocks =
    decimal files ++ 32 ∷ counted_word files (codes "file") (codes "files") ++ codes ", " ++ decimal blocks ++ 32 ∷ counted_word blocks (codes "block") (codes "blocks") ++ 10 ∷ []

-- all lines
abbrev pub IsListing : List (List ℕ) → VolumeLayout → Columns → List Line → ℕ → List ℕ → Type 0
IsListing I L columns lines files text = (listed : List ℕ) × (blocks : ℕ) × AreListed I L columns lines listed blocks × (text ≡ listed ++ total_line files blocks)

-- the directories from index `from` to before index `to`, if directories without lines are shown
abbrev pub places_from : Bool → ℕ → ℕ → List ℕ
places_from empty from to = if empty then range_with_len from (to - from) else []

-- the directories whose headings are printed before a line of the directory with this index, if the first `headed` have theirs
abbrev pub places_before : Bool → ℕ → ℕ → List ℕ
places_before empty headed place = if nat_le headed place then places_from empty headed place ++ place ∷ [] else []

-- the number of directories that have their headings afterwards, up to 2^64 - 1
abbrev pub headed_by : ℕ → ℕ → ℕ
headed_by headed place = if nat_le headed place then min (place + 1) (2 ^ 64 - 1) else headed

-- After the text `before`, in which the first `headed` directories have their headings, these lines follow with theirs. Then the text is `text`,
-- the first `top` directories have their headings, and the files have `blocks` blocks, up to 2^64 - 1.
abbrev pub AreListedUnder : List (List ℕ) → VolumeLayout → Columns → List Directory → List ℕ → ℕ → List Line → List ℕ → ℕ → ℕ → Type 0
AreListedUnder I L columns directories before headed [] text top blocks = (text ≡ before) × (top ≡ headed) × (blocks ≡ 0)
AreListedUnder I L columns directories before headed (line ∷ lines) text top blocks = (known : Option Facts) × (more : ℕ) × IsKnown I L line.entry.file known
    × AreListedUnder I L columns directories (with_headings directories before (places_before columns.empty headed line.directory) ++ entry_line line.entry known columns) (headed_by headed line.directory) lines text top more
    × (blocks ≡ min (blocks_of known + more) (2 ^ 64 - 1))

-- all lines with their headings
abbrev pub IsListingUnder : List (List ℕ) → VolumeLayout → Columns → List Directory → List Line → ℕ → List ℕ → Type 0
IsListingUnder I L columns directories lines files text = (listed : List ℕ) × (top : ℕ) × (blocks : ℕ) × AreListedUnder I L columns directories [] 0 lines listed top blocks
    × (text ≡ with_headings directories listed (places_from columns.empty top (length directories)) ++ total_line files blocks)

-- an object for each line that was found in these directories: its path, the ID that it names, and the facts of the file
abbrev pub AreObjects : List (List ℕ) → VolumeLayout → List ℕ → List Directory → List Line → List ℕ → Type 0
AreObjects I L image directories [] text = text ≡ []
AreObjects I L image directories (line ∷ lines) text = (known : Option Facts) × (rest : List ℕ) × IsKnown I L line.entry.file known × AreObjects I L image directories lines rest
    × (text ≡ object_line (entry_members image (line_path directories line) line.entry.file known) ++ rest)
