use Rattle.std.proofs.Common.{rules, ◌≡◌, ◌≤◌, ℕ, List, Option, true, length, subst, take}
use Rattle.std.specs.Borrow.{Bor}
use Rattle.std.specs.List.{All}
use Rattle.std.proofs.lemmas.List.{take_all}
use Rattle.std.proofs.lemmas.List.Elements.{All-more}
use Rattle.ods_base.specs.declared.file_id.FileId.{FileId}
use Rattle.ods_space.specs.Disks.{on}
use Rattle.ods_shell.specs.Former.{IsUndeleted}
use Rattle.ods_shell.specs.declared.form.Remark.{Remark}
use Rattle.fs_reads.specs.Ends.{may_name}
use Rattle.fs_reads.specs.Targets.{IsWritten}
use Rattle.fs_reads.specs.Undeleted.{IsIdGot}
use Rattle.fs_reads.proofs.FilesGot.{both_done, either_holds}
use Rattle.fs_reads.proofs.Undeleting.{by_done, by_may, ids_still}
use Rattle.fs_reads.proofs.getting_deleted.get_all.Goals as goal

pub loop-path-preserved : goal.loop-path-preserved
loop-path-preserved g c =
    let D = c.args.disk.now in
    let user = c.args.how.reader.user in
    let tells = c.args.how.only_tells in
    let Read : FileId → List ℕ → Option Remark → Type 0 = λ id. on IsUndeleted D id c.args.how.wanted c.args.partial in
    let mid = g.T.Targets.took c.loop-path.targets in
    let now = g.T.Targets.took c.get_id.new.targets in
    let Got : Bor (List ℕ) → Type 0 = λ path. on IsIdGot D user (IsWritten tells now Read) path.now in
    let old = c.loop-path.status in
    let s = c.in_ok-done.done in
    let new = c.or-status.result in
    record {
      may = either_holds (λ x. may_name x ≡ true) old s new c.or-status.ensures.done c.or-status.ensures.fault c.loop-path.invariant.may (by_may _ s c.in_ok-done.ensures.ends);
      done = λ e.
          let both = both_done old s new c.or-status.ensures.done c.or-status.ensures.fault e in
          All-more Got c.args.paths.now c.loop-path.path-index _ c.loop-path-test.true
          (ids_still D.image.now D.layout.now user tells Read mid now c.in_ok-done.ensures.stay (take c.loop-path.path-index c.args.paths.now) (c.loop-path.invariant.done both.0))
          (by_done _ s c.in_ok-done.ensures.ends both.1);
      stay = λ path bytes had. c.in_ok-done.ensures.stay path bytes (c.loop-path.invariant.stay path bytes had);
    }

pub returns-clause-done : goal.returns-clause-done
returns-clause-done g c = λ e.
    let D = c.args.disk.now in
    let Gives : FileId → List ℕ → Option Remark → Type 0 = IsWritten c.args.how.only_tells (g.T.Targets.took c.loop-path.targets) (λ id. on IsUndeleted D id c.args.how.wanted c.args.partial) in
    let Got : Bor (List ℕ) → Type 0 = λ path. on IsIdGot D c.args.how.reader.user Gives path.now in
    let past : length c.args.paths.now ≤ c.loop-path.path-index = search rules in
    subst (All Got) (take_all c.loop-path.path-index c.args.paths.now past) (c.loop-path.invariant.done e)
