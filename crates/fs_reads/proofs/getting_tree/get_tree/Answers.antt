use Rattle.std.proofs.Common.{◌≡◌, ◌∙◌, ◌∷◌, [], ap, ℕ, List, Option, true, subst, sym}
use Rattle.std.specs.List.{All}
use Rattle.ods_paths.specs.Paths.{Folder}
use Rattle.ods_shell.specs.Contents.{IsGot}
use Rattle.ods_shell.specs.Ways.{AreMeant, CountAsClosed}
use Rattle.ods_shell.specs.declared.folders.Directory.{Directory}
use Rattle.ods_shell.specs.declared.form.Remark.{Remark}
use Rattle.fs_reads.specs.Denied.{IsClosedStatus}
use Rattle.fs_reads.specs.Gets.{AreSaid}
use Rattle.fs_reads.specs.Targets.{IsWritten}
use Rattle.fs_reads.specs.TreesGot.{IsDirectoryGot}
use Rattle.fs_reads.proofs.FilesGot.{both_done}
use Rattle.fs_reads.proofs.TreeFiles.{none_closed, past_none}
use Rattle.fs_reads.proofs.getting_tree.get_tree.Goals as goal

pub returns-clause-done : goal.returns-clause-done
returns-clause-done g c = λ e.
    let I = c.args.disk.now.image.now in
    let L = c.args.disk.now.layout.now in
    let user = c.args.words.now.user in
    let Gives : ℕ → List ℕ → Option Remark → Type 0 = IsWritten c.args.words.now.saving.only_tells (g.T.Targets.took c.get_directories.new.targets) (λ n. IsGot I L n c.args.wanted) in
    let both = both_done c.in_ok-shut.shut c.in_ok-got.got c.or.result c.or.ensures.done c.or.ensures.fault e in
    let path = c.in_ok-path.path in
    let target = c.split_words.result.1 in
    let words : AreSaid c.args.words.now.paths.items c.args.said c.split_words.result.0.now target =
    subst (λ ws. AreSaid ws c.args.said c.split_words.result.0.now target) c.deref.ensures.value c.split_words.ensures in
    let said : AreSaid c.args.words.now.paths.items c.args.said (path ∷ []) target = subst (λ ps. AreSaid c.args.words.now.paths.items c.args.said ps target) c.in_ok-path.ensures.ok words in
    let folder = c.in_ok-folder.ensures.ok in
    let tree = c.in_ok-tree.tree in
    let closed = c.in_ok-closed.closed.items in
    let all = tree.directories.items in
    let met : IsClosedStatus user tree.closed.items c.in_ok-shut.shut = subst (λ (ds : List Directory). IsClosedStatus user ds c.in_ok-shut.shut) c.deref-4.ensures.value c.in_ok-shut.ensures.ok in
    let past : CountAsClosed closed tree.closed.items [] = past_none user tree.closed.items closed c.in_ok-shut.shut met both.0 (none_closed I L user closed c.in_ok-closed.ensures) in
    let shut : CountAsClosed c.deref-3.result.now tree.closed.items [] = subst (λ (ns : List ℕ). CountAsClosed ns tree.closed.items []) (sym c.deref-3.ensures.value) past in
    let below = c.with_below.ensures ∙ ap (λ (f : Folder). record f { below = true }) folder.2 in
    let meant : AreMeant I L [] (record folder.0 { below = true }) all = subst (λ (f : Folder). AreMeant I L [] f all) below (c.in_ok-tree.ensures.directories [] shut) in
    let got : All (IsDirectoryGot I L user Gives) all =
    subst (All (IsDirectoryGot I L user Gives)) c.deref-5.ensures.value (subst (λ u. All (IsDirectoryGot I L u Gives) c.deref-5.result.now) c.of.ensures.0 (c.in_ok-got.ensures.done both.1)) in
    (path, (target, said, (folder.0, folder.1, (all, meant, got))))
