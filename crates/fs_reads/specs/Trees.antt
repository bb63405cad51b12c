-- The host path of a rescued file: below the folders of the directories whose names reach it.
use Rattle.std.specs.Prelude.{ℕ, ◌==◌, if◌then◌else◌, List, [], ◌∷◌, ◌++◌, length, codes}
use Rattle.std.specs.Fmt.{decimal}
use Rattle.std.specs.List.{flat_map}
use Rattle.ods_base.specs.Name.{RadName, title}
use Rattle.ods_base.specs.declared.file_id.FileId.{FileId}
use Rattle.fs_reads.specs.declared.rescue_way.Way.{Way}
use Rattle.fs_reads.specs.declared.rescue_way.Way.TheVariants.{To, Lost}
use Rattle.ods_shell.specs.Texts.{shown_one}

-- the folder of a directory: `1,2` for a group and a member, otherwise its name; `_` if the name is empty
abbrev pub folder_name : RadName → List ℕ
folder_name name = if length (title name) == 0 then 95 ∷ [] else shown_one (title name)

-- a folder after a slash
abbrev pub slashed : RadName → List ℕ
slashed name = 47 ∷ folder_name name

-- the folders on the way to a directory that these names reach, below the folder of the rescue; nothing for the master directory
abbrev pub folder_text : List RadName → List ℕ
folder_text [] = []
folder_text (name ∷ names) = folder_name name ++ flat_map slashed names

-- a name in a folder, or only the name if the folder is empty
abbrev pub name_below : List ℕ → List ℕ → List ℕ
name_below folder name = if length folder == 0 then name else folder ++ (47 ∷ name)

-- the name of a rescued file, below the folder of the rescue: with the folders of its directories and its name there, or in the folder of the lost
-- files with the name in its header
abbrev pub name_of_way : Way → List ℕ → List ℕ
name_of_way (To names name) own = name_below (folder_text names.now) name.now
name_of_way Lost own = name_below (codes "lost") own

-- the text for a file in a line: its name below the folder of the rescue and its ID, or only its ID
abbrev pub told_of_way : Way → FileId → List ℕ
told_of_way (To names name) file = name_below (folder_text names.now) name.now ++ (codes " #" ++ (decimal file.number ++ (codes "," ++ decimal file.sequence)))
told_of_way Lost file = codes "file " ++ (decimal file.number ++ (codes "," ++ decimal file.sequence))
