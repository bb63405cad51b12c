use Rattle.std.proofs.Common.{◌≡◌, ◌∙◌, refl, sym, subst, Bool, List, ℕ, Option, Some, None}
use Rattle.std.specs.Prelude.{is_some}
use Rattle.ods_paths.specs.declared.files.Files.{Files}
use Rattle.ods_paths.specs.Paths.{Folder, Says, Within}
use Rattle.ods_paths.specs.Views.{folder as said_folder, said, said_files}
use Rattle.ods_shell.specs.Ways.{AreMeant}
use Rattle.fs_reads.specs.Named.{searched}
use Rattle.fs_reads.proofs.finding.found_by.Goals as goal

some_said : (files : Option Files) → is_some files ≡ is_some (said_files files)
some_said None = refl
some_said (Some f) = refl

pub returns-else-is_nothing-clause-ok : goal.returns-else-is_nothing-clause-ok
returns-else-is_nothing-clause-ok c = λ shut counts.
    let arm = c.in-Ok-Within in
    let found = c.in_ok-found-in-Ok-Within in (
      said_folder arm.folder,
      said_files arm.files,
      subst (λ (text : List ℕ). Says text (Within (said_folder arm.folder) (said_files arm.files))) c.as_bytes.ensures.value
          (subst (λ p. Says c.as_bytes.result.now (said p)) arm.field-0-is arm.ensures),
      subst (λ (b : Bool). AreMeant c.args.disk.now.image.now c.args.disk.now.layout.now shut (searched c.args.path.now (said_folder arm.folder) b) found.found.directories.items) (c.is_some.ensures ∙ some_said arm.files)
          (subst (λ (f : Folder). AreMeant c.args.disk.now.image.now c.args.disk.now.layout.now shut f found.found.directories.items) c.to_search-folder.ensures (found.ensures.directories shut counts)),
      found.ensures.lines,
    )
