use Rattle.std.specs.Prelude.{slice_index}
use Rattle.ods_upkeep.specs.Removed.{MayNotGo}
use Rattle.ods_upkeep.proofs.Stopping.{all_passed, first_kept, none_passed, passed_more}
use Rattle.ods_upkeep.proofs.removing.check_all.Goals as goal

pub loop-found-init : goal.loop-found-init
loop-found-init c = none_passed (MayNotGo c.args.removal.entry_alone (slice_index c.args.names.now)) c.args.all.now

pub loop-found-preserved : goal.loop-found-preserved
loop-found-preserved c =
    passed_more (MayNotGo c.args.removal.entry_alone (slice_index c.args.names.now)) c.args.all.now c.loop-found.found-index c.found-item.result c.loop-found-test.true c.found-item.is c.loop-found.invariant c.in_default.ensures.ok

pub returns-clause-ok : goal.returns-clause-ok
returns-clause-ok c = all_passed (MayNotGo c.args.removal.entry_alone (slice_index c.args.names.now)) c.args.all.now c.loop-found.found-index c.loop-found-test.false c.loop-found.invariant

pub returns-in-Err-clause-err : goal.returns-in-Err-clause-err
returns-in-Err-clause-err c =
    first_kept (MayNotGo c.args.removal.entry_alone (slice_index c.args.names.now)) c.args.all.now c.loop-found.found-index c.found-item.result c.deref.result.now c.in-Err.why c.of_path.result c.loop-found-test.true c.found-item.is
    c.loop-found.invariant c.in-Err.ensures.err c.of_path.ensures.why c.deref.ensures c.of_path.ensures.path
