use Rattle.std.proofs.Common.{subst, true, List}
use Rattle.std.proofs.lemmas.Result.{IfOk-weaker}
use Rattle.ods_paths.specs.Steps.{Step}
use Rattle.ods_shell.specs.Ways.{AreMeant}
use Rattle.fs_reads.proofs.finding.find_all.Goals as goal

pub returns-clause-directories : goal.returns-clause-directories
returns-clause-directories c =
    IfOk-weaker c.find_open.result _ _
    (λ found are shut counts. subst (λ (steps : List Step). AreMeant c.args.disk.now.image.now c.args.disk.now.layout.now shut (record { steps = steps; below = true }) found.directories.items) c.no_steps.ensures (are shut counts))
    c.find_open.ensures.directories
