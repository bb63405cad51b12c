-- The meaning of paths, without the addresses of their texts in memory.
use Rattle.std.specs.Prelude.{ℕ, List, map, Option, Some, None, option_map}
use Rattle.ods_paths.specs.declared.files.Files.{Files}
use Rattle.ods_paths.specs.declared.folders.Folder.{Folder}
use Rattle.ods_paths.specs.declared.steps.Step.{Step}
use Rattle.ods_paths.specs.declared.steps.Step.TheVariants as the_step
use Rattle.ods_paths.specs.declared.steps.Steps.{Steps}
use Rattle.ods_paths.specs.declared.paths.Path.{Path}
use Rattle.ods_paths.specs.declared.paths.Path.TheVariants as the_path
use Rattle.ods_paths.specs.Patterns.{capitals}
use Rattle.ods_paths.specs.Steps as ways
use Rattle.ods_paths.specs.Paths as says

abbrev pub files : Files → says.Files
files f = record { name = capitals f.name.now; kind = capitals f.kind.now; versions = f.versions }

abbrev pub step : Step → ways.Step
step (the_step.Numbers group member) = ways.Numbers group member
step (the_step.Pattern text) = ways.Pattern (capitals text.now)

abbrev pub texts : Steps → List (List ℕ)
texts s = ways.step_texts s.separator (option_map (λ text. text.now) s.text) (option_map (λ text. text.now) s.last)

abbrev pub steps : Steps → List ways.Step
steps s = map ways.step_of (texts s)

abbrev pub folder : Folder → says.Folder
folder f = record { steps = steps f.steps; below = f.below }

abbrev pub said_files : Option Files → Option says.Files
said_files None = None
said_files (Some f) = Some (files f)

abbrev pub said : Path → says.Said
said (the_path.File f) = says.File f
said (the_path.Within f some) = says.Within (folder f) (said_files some)
