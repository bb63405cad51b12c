use Rattle.std.proofs.Common.{sym, subst}
use Rattle.ods_space.specs.Draft.{applied}
use Rattle.ods_alloc.specs.Counts.{counts_of}
use Rattle.ods_state.specs.Change.{disk}
use Rattle.ods_state.specs.Moves.{ChangesOnlyTouched}
use Rattle.ods_volume.proofs.Counted.{on_any_error, other_takes_memory, query_changes_none}
use Rattle.ods_volume.proofs.prepare.counts_after.Goals as goal

pub returns-in-Some-clause-ok : goal.returns-in-Some-clause-ok
returns-in-Some-clause-ok c =
    let D = disk c.args.disk.now.image.now c.args.disk.now.layout.now in
    let E = disk (applied c.args.disk.now.image.now c.args.draft.now) c.requires.made.2 in
    let is = (c.as_query.ensures c.in-Some._query).0 c.in-Some.is in
    let only = subst (λ r. ChangesOnlyTouched D r E) (sym is) c.requires.made.3.elsewhere in
    λ i. counts_of (query_changes_none D E c.in-Some._query only i) c.args.disk.now.layout.now

pub returns-clause-err : goal.returns-clause-err
returns-clause-err c =
    on_any_error c.after.result (other_takes_memory c.args.request.now (λ q e. c.in_default.not-Some q ((c.as_query.ensures q).1 e)))
