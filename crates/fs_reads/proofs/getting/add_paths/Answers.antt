use Rattle.std.proofs.Common.{rules, ◌≡◌, ◌≤◌, true, length, subst}
use Rattle.std.specs.List.{All}
use Rattle.std.proofs.lemmas.List.{take_all}
use Rattle.fs_reads.specs.Ends.{may_name}
use Rattle.fs_reads.specs.Gets.{IsAmong}
use Rattle.fs_reads.proofs.FilesGot.{among_next, both_done, either_holds}
use Rattle.fs_reads.proofs.getting.add_paths.Goals as goal

pub loop-path-preserved : goal.loop-path-preserved
loop-path-preserved g c =
    let I = c.args.disk.now.image.now in
    let L = c.args.disk.now.layout.now in
    let paths = c.args.paths.now in
    let old = c.loop-path.status in
    let s = c.in_ok-add_named.field-0 in
    let new = c.or-status.result in
    record {
      may = either_holds (λ x. may_name x ≡ true) old s new c.or-status.ensures.done c.or-status.ensures.fault c.loop-path.invariant.may c.in_ok-add_named.ensures.status;
      done = λ e.
          let both = both_done old s new c.or-status.ensures.done c.or-status.ensures.fault e in
          among_next I L c.args.user c.args.closed.now paths c.loop-path.path-index _ c.loop-path.all.items c.add_named.new.all.items s c.loop-path-test.true
          (c.loop-path.invariant.done both.0) c.in_ok-add_named.ensures.named both.1;
    }

pub returns-clause-done : goal.returns-clause-done
returns-clause-done g c = λ e.
    let past : length c.args.paths.now ≤ c.loop-path.path-index = search rules in
    subst (All (λ p. IsAmong c.args.disk.now.image.now c.args.disk.now.layout.now c.args.user c.args.closed.now c.loop-path.all.items p.now))
    (take_all c.loop-path.path-index c.args.paths.now past) (c.loop-path.invariant.done e)
