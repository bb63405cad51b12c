use Rattle.std.proofs.Common.{◌≡◌, ℕ, List, Option, subst}
use Rattle.std.specs.Borrow.{Bor}
use Rattle.std.proofs.lemmas.Result.{IfOk-weaker}
use Rattle.ods_base.specs.declared.file_id.FileId.{FileId}
use Rattle.ods_space.specs.Disks.{on}
use Rattle.ods_shell.specs.Former.{IsUndeleted}
use Rattle.ods_shell.specs.declared.form.Remark.{Remark}
use Rattle.ods_shell.specs.declared.status.Status.{Status}
use Rattle.ods_shell.specs.declared.status.Status.TheVariants.{Done}
use Rattle.fs_reads.specs.Gets.{AreSaid}
use Rattle.fs_reads.specs.Targets.{IsWritten}
use Rattle.fs_reads.specs.Undeleted.{AreIdsGot}
use Rattle.fs_reads.proofs.getting_deleted.get_deleted.Goals as goal

pub returns-clause-done : goal.returns-clause-done
returns-clause-done g c =
    let D = c.args.disk.now in
    let Gives : FileId → List ℕ → Option Remark → Type 0 = IsWritten c.args.words.now.saving.only_tells (g.T.Targets.took c.get_all.new.targets) (λ id. on IsUndeleted D id c.args.wanted c.args.partial) in
    let paths = c.split_words.result.0.now in
    let target = c.split_words.result.1 in
    let said : AreSaid c.args.words.now.paths.items c.args.said paths target = subst (λ ws. AreSaid ws c.args.said paths target) c.deref.ensures.value c.split_words.ensures in
    IfOk-weaker c.get_all.result (λ s. s ≡ Done → on AreIdsGot D c.of-2.result.user Gives paths)
    (λ s. s ≡ Done → (some : List (Bor (List ℕ))) × ((to : Option (Bor (List ℕ))) × AreSaid c.args.words.now.paths.items c.args.said some to × on AreIdsGot D c.args.words.now.user Gives some))
    (λ s got e. (paths, (target, said, subst (λ u. on AreIdsGot D u Gives paths) c.of-2.ensures.0 (got e)))) c.get_all.ensures.done
