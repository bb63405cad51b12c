use Rattle.std.proofs.Common.{rules, ◌≡◌, ◌≤◌, ℕ, List, Option, true, length, refl, subst, take, Some}
use Rattle.std.specs.List.{All, slice_get}
use Rattle.std.proofs.lemmas.List.{take_all}
use Rattle.std.proofs.lemmas.Option.{slice_get_read}
use Rattle.ods_shell.specs.Contents.{IsGot}
use Rattle.ods_shell.specs.declared.folders.Directory.{Directory}
use Rattle.ods_shell.specs.declared.form.Remark.{Remark}
use Rattle.fs_reads.specs.Ends.{may_name}
use Rattle.fs_reads.specs.TreesGot.{IsDirectoryGot}
use Rattle.fs_reads.specs.Targets.{IsWritten}
use Rattle.fs_reads.proofs.FilesGot.{both_done, directories_still, either_holds, one_more}
use Rattle.fs_reads.proofs.getting_tree.get_directories.Goals as goal

pub loop-directory-preserved : goal.loop-directory-preserved
loop-directory-preserved g c =
    let I = c.args.disk.now.image.now in
    let L = c.args.disk.now.layout.now in
    let user = c.args.how.reader.user in
    let Read : ℕ → List ℕ → Option Remark → Type 0 = λ n. IsGot I L n c.args.how.wanted in
    let tells = c.args.how.only_tells in
    let mid = g.T.Targets.took c.loop-directory.targets in
    let now = g.T.Targets.took c.get_directory.new.targets in
    let Gives : ℕ → List ℕ → Option Remark → Type 0 = IsWritten tells now Read in
    let directory : Directory = c.directory-item.result in
    let at : slice_get c.args.directories.now c.loop-directory.directory-index ≡ Some directory =
    slice_get_read c.args.directories.now _ c.loop-directory.directory-index directory refl c.loop-directory-test.true c.directory-item.is in
    let old = c.loop-directory.status in
    let s = c.in_ok-done.done in
    let new = c.or-status.result in
    record {
      may = either_holds (λ x. may_name x ≡ true) old s new c.or-status.ensures.done c.or-status.ensures.fault c.loop-directory.invariant.may c.in_ok-done.ensures.status;
      done = λ e.
          let both = both_done old s new c.or-status.ensures.done c.or-status.ensures.fault e in
          one_more (IsDirectoryGot I L user Gives) c.args.directories.now c.loop-directory.directory-index directory at
          (directories_still user tells Read mid now c.in_ok-done.ensures.stay I L (take c.loop-directory.directory-index c.args.directories.now) (c.loop-directory.invariant.done both.0)) (c.in_ok-done.ensures.done both.1);
      stay = λ path bytes had. c.in_ok-done.ensures.stay path bytes (c.loop-directory.invariant.stay path bytes had);
    }

pub returns-clause-done : goal.returns-clause-done
returns-clause-done g c = λ e.
    let I = c.args.disk.now.image.now in
    let L = c.args.disk.now.layout.now in
    let Gives : ℕ → List ℕ → Option Remark → Type 0 = IsWritten c.args.how.only_tells (g.T.Targets.took c.loop-directory.targets) (λ n. IsGot I L n c.args.how.wanted) in
    let past : length c.args.directories.now ≤ c.loop-directory.directory-index = search rules in
    subst (All (IsDirectoryGot I L c.args.how.reader.user Gives)) (take_all c.loop-directory.directory-index c.args.directories.now past) (c.loop-directory.invariant.done e)
