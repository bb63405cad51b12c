use Rattle.std.proofs.Common.{rules, ◌≡◌, ◌≤◌, ℕ, List, Option, true, length, refl, subst, take, Some}
use Rattle.std.specs.List.{All, slice_get}
use Rattle.std.proofs.lemmas.List.{take_all}
use Rattle.std.proofs.lemmas.Option.{slice_get_read}
use Rattle.ods_shell.specs.Contents.{IsGot, IsNotGot}
use Rattle.ods_shell.specs.declared.form.FormFault.{FormFault}
use Rattle.ods_shell.specs.declared.form.Remark.{Remark}
use Rattle.ods_shell.specs.declared.found.Found.{Found}
use Rattle.fs_reads.specs.Ends.{may_name}
use Rattle.fs_reads.specs.Gets.{IsGettable}
use Rattle.fs_reads.specs.Targets.{IsWritten}
use Rattle.fs_reads.proofs.FilesGot.{all_still, both_done, either_holds, get_done, get_may, one_more}
use Rattle.fs_reads.proofs.getting.get_each.Goals as goal

pub loop-found-preserved : goal.loop-found-preserved
loop-found-preserved g c =
    let user = c.args.how.reader.user in
    let Read : ℕ → List ℕ → Option Remark → Type 0 = λ n. IsGot c.args.disk.now.image.now c.args.disk.now.layout.now n c.args.how.wanted in
    let tells = c.args.how.only_tells in
    let mid = g.T.Targets.took c.loop-found.targets in
    let now = g.T.Targets.took c.get_one.new.targets in
    let Gives : ℕ → List ℕ → Option Remark → Type 0 = IsWritten tells now Read in
    let Lacks : ℕ → FormFault → Type 0 = λ n. IsNotGot c.args.disk.now.image.now c.args.disk.now.layout.now n c.args.how.wanted in
    let found : Found = c.found-item.result in
    let at : slice_get c.args.files.now c.loop-found.found-index ≡ Some found = slice_get_read c.args.files.now _ c.loop-found.found-index found refl c.loop-found-test.true c.found-item.is in
    let old = c.loop-found.status in
    let s = c.in_ok-done.done in
    let new = c.or-status.result in
    record {
      may = either_holds (λ x. may_name x ≡ true) old s new c.or-status.ensures.done c.or-status.ensures.fault c.loop-found.invariant.may (get_may user Gives Lacks found s c.in_ok-done.ensures.ends);
      done = λ e.
          let both = both_done old s new c.or-status.ensures.done c.or-status.ensures.fault e in
          one_more (IsGettable user Gives) c.args.files.now c.loop-found.found-index found at
          (all_still user tells Read mid now c.in_ok-done.ensures.stay (take c.loop-found.found-index c.args.files.now) (c.loop-found.invariant.done both.0))
          (get_done user Gives Lacks found s c.in_ok-done.ensures.ends both.1);
      stay = λ path bytes had. c.in_ok-done.ensures.stay path bytes (c.loop-found.invariant.stay path bytes had);
    }

pub returns-clause-done : goal.returns-clause-done
returns-clause-done g c = λ e.
    let Gives : ℕ → List ℕ → Option Remark → Type 0 = IsWritten c.args.how.only_tells (g.T.Targets.took c.loop-found.targets) (λ n. IsGot c.args.disk.now.image.now c.args.disk.now.layout.now n c.args.how.wanted) in
    let past : length c.args.files.now ≤ c.loop-found.found-index = search rules in
    subst (All (IsGettable c.args.how.reader.user Gives)) (take_all c.loop-found.found-index c.args.files.now past) (c.loop-found.invariant.done e)
