use Rattle.std.proofs.Common.{ℕ, List, Option, subst}
use Rattle.std.specs.List.{All}
use Rattle.ods_shell.specs.Contents.{IsGot}
use Rattle.ods_shell.specs.declared.form.Remark.{Remark}
use Rattle.fs_reads.specs.Gets.{AreSaid, IsAmong, IsGettable}
use Rattle.fs_reads.specs.Targets.{IsWritten}
use Rattle.fs_reads.proofs.FilesGot.{both_done, paths_got}
use Rattle.fs_reads.proofs.getting.get.Goals as goal

pub returns-clause-done : goal.returns-clause-done
returns-clause-done g c = λ e.
    let I = c.args.disk.now.image.now in
    let L = c.args.disk.now.layout.now in
    let user = c.args.words.now.user in
    let Gives : ℕ → List ℕ → Option Remark → Type 0 = IsWritten c.args.words.now.saving.only_tells (g.T.Targets.took c.get_all.new.targets) (λ n. IsGot I L n c.args.wanted) in
    let both = both_done c.in_ok-named.named c.in_ok-get_all.field-0 c.or.result c.or.ensures.done c.or.ensures.fault e in
    let paths = c.split_words.result.0.now in
    let target = c.split_words.result.1 in
    let closed = c.in_ok-closed.closed.items in
    let all = c.add_paths.new.all.items in
    let said : AreSaid c.args.words.now.paths.items c.args.said paths target = subst (λ ws. AreSaid ws c.args.said paths target) c.deref.ensures.value c.split_words.ensures in
    let among : All (λ p. IsAmong I L user closed all p.now) paths = subst (λ xs. All (λ p. IsAmong I L user xs all p.now) paths) c.deref-2.ensures.value (c.in_ok-named.ensures.done both.0) in
    let got : All (IsGettable user Gives) all =
    subst (All (IsGettable user Gives)) c.deref-3.ensures.value (subst (λ u. All (IsGettable u Gives) c.deref-3.result.now) c.of.ensures.0 (c.in_ok-get_all.ensures.done both.1)) in
    (paths, (target, said, (closed, c.in_ok-closed.ensures, paths_got I L user closed Gives all paths among got)))
