use Rattle.std.proofs.Common.{◌≡◌, ◌∙◌, ℕ, List, Option, Some, ap, subst, string_bytes, true}
use Rattle.std.specs.Prelude.{IfSome, slice_get}
use Rattle.ods_paths.specs.Paths.{Folder, Says, Within}
use Rattle.ods_paths.specs.declared.files.Files.{Files as AskedFiles}
use Rattle.ods_paths.specs.declared.paths.Path.{Path}
use Rattle.ods_paths.specs.declared.paths.Path.TheVariants as path
use Rattle.ods_paths.specs.Views.{files as said_files, folder as said_folder, said}
use Rattle.ods_paths.specs.Steps.{Step}
use Rattle.ods_paths.specs.declared.versions.Versions.TheVariants.{Highest}
use Rattle.ods_shell.specs.Named.{AreNamed}
use Rattle.ods_shell.specs.Ways.{CountAsClosed}
use Rattle.ods_shell.specs.declared.found.Found.{Found}
use Rattle.fs_reads.specs.Named.{everywhere}
use Rattle.fs_reads.proofs.Nearby.{first_near}
use Rattle.fs_reads.proofs.near.near_path.Goals as goal

pub returns-in-Ok : goal.returns-in-Ok
returns-in-Ok c =
    let I = c.args.disk.now.image.now in
    let L = c.args.disk.now.layout.now in
    let closed = c.args.closed.now in
    let files = said_files c.in-Ok-Within-default-Some.files in
    let found = c.in-Ok.found.items in
    let met = c.in-Ok.field-0-1.items in
    let named : (shut : List ℕ) → CountAsClosed closed met shut → AreNamed I L shut everywhere files (Some Highest) found = λ shut counts.
    subst (λ (f : Folder). AreNamed I L shut f files (Some Highest) found) (ap (λ (s : List Step). record { steps = s; below = true }) c.no_steps.ensures) (c.in-Ok.ensures.named shut counts) in
    let way = c.in-Ok-Within-default-Some.field-0-0 in
    let is : c.in-Ok-Within-default-Some.field-0 ≡ path.Within way (Some c.in-Ok-Within-default-Some.files) = c.in-Ok-Within-default-Some.field-0-is ∙ ap (λ (some : Option AskedFiles). path.Within way some) c.in-Ok-Within-default-Some.field-0-1-is in
    let says : Says c.args.path.now (Within (said_folder way) (Some files)) =
    subst (λ (t : List ℕ). Says t (Within (said_folder way) (Some files))) c.as_bytes-2.ensures.value (subst (λ (p : Path). Says c.as_bytes-2.result.now (said p)) is c.in-Ok-Within-default-Some.ensures) in
    first_near (λ s. string_bytes s) I L closed c.args.path.now (said_folder way) files found met says named c.first_path.result
    (subst (λ (fs : List Found). IfSome c.first_path.result (λ text. (first : Found) × (slice_get fs 0 ≡ Some first) × (string_bytes text ≡ string_bytes first.path))) c.deref.ensures.value c.first_path.ensures)
