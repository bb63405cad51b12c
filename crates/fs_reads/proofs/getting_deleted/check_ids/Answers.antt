use Rattle.std.proofs.Common.{rules, ◌≡◌, ◌≤◌, length, subst}
use Rattle.std.specs.List.{All}
use Rattle.std.proofs.lemmas.List.{take_all}
use Rattle.std.proofs.lemmas.List.Elements.{All-more}
use Rattle.fs_reads.specs.Undeleted.{SaysId}
use Rattle.fs_reads.proofs.getting_deleted.check_ids.Goals as goal

pub loop-path-preserved : goal.loop-path-preserved
loop-path-preserved c = All-more (λ path. SaysId path.now) c.args.paths.now c.loop-path.path-index _ c.loop-path-test.true c.loop-path.invariant (c.in_ok-id_in.field-0, c.in_ok-id_in.ensures.ok)

pub returns-clause-ok : goal.returns-clause-ok
returns-clause-ok c =
    let past : length c.args.paths.now ≤ c.loop-path.path-index = search rules in
    subst (All (λ path. SaysId path.now)) (take_all c.loop-path.path-index c.args.paths.now past) c.loop-path.invariant
