-- The texts for the files that a scan finds.
use Rattle.std.specs.Prelude.{ℕ, List, ◌++◌, codes, Option, Some, None}
use Rattle.std.specs.Fmt.{decimal}
use Rattle.ods_base.specs.declared.file_id.FileId.{FileId}
use Rattle.ods_space.specs.declared.fault.ChainFault.{ChainFault}
use Rattle.ods_shell.specs.declared.status.Status.{Status}
use Rattle.ods_shell.specs.declared.status.Status.TheVariants.{Done, Found}

-- an ID, as `#6,1`
abbrev pub id_text : FileId → List ℕ
id_text file = codes "#" ++ (decimal file.number ++ (codes "," ++ decimal file.sequence))

-- the name of a file, its ID, and the LBN of its first header
abbrev pub placed_name : List ℕ → List ℕ → ℕ → List ℕ
placed_name name id lbn = name ++ (codes " " ++ (id ++ (codes " @" ++ decimal lbn)))

-- the status of a copied file of which this is missing
abbrev pub status_lacking : Option ChainFault → Status
status_lacking None = Done
status_lacking (Some fault) = Found
