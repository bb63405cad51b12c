use Rattle.std.proofs.Common.{◌≡◌, ℕ, List, Option, subst}
use Rattle.std.specs.List.{All}
use Rattle.std.proofs.lemmas.Result.{IfOk-weaker}
use Rattle.ods_shell.specs.Contents.{IsGot}
use Rattle.ods_shell.specs.declared.form.Remark.{Remark}
use Rattle.ods_shell.specs.declared.status.Status.TheVariants.{Done}
use Rattle.fs_reads.specs.Gets.{IsGettable}
use Rattle.fs_reads.specs.Targets.{IsWritten}
use Rattle.fs_reads.specs.TreesGot.{IsDirectoryGot}
use Rattle.fs_reads.proofs.getting_tree.get_directory.Goals as goal

pub returns-clause-done : goal.returns-clause-done
returns-clause-done g c =
    let I = c.args.disk.now.image.now in
    let L = c.args.disk.now.layout.now in
    let user = c.args.how.reader.user in
    let Gives : ℕ → List ℕ → Option Remark → Type 0 = IsWritten c.args.how.only_tells (g.T.Targets.took c.get_each.new.targets) (λ n. IsGot I L n c.args.how.wanted) in
    let files = c.in_ok-files.files.items in
    IfOk-weaker c.get_each.result (λ s. s ≡ Done → All (IsGettable user Gives) c.deref-2.result.now) (λ s. s ≡ Done → IsDirectoryGot I L user Gives c.args.directory.now)
    (λ s got e. (files, c.in_ok-files.ensures, subst (All (IsGettable user Gives)) c.deref-2.ensures.value (got e))) c.get_each.ensures.done
