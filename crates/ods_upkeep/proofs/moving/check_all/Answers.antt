use Rattle.std.proofs.Common.{◌∙◌, inl, inr}
use Rattle.ods_upkeep.specs.Moved.{MayNotMove}
use Rattle.ods_upkeep.proofs.Stopping.{all_passed, first_kept, none_passed, passed_more}
use Rattle.ods_upkeep.proofs.moving.check_all.Goals as goal

pub loop-found-init : goal.loop-found-init
loop-found-init c = none_passed (MayNotMove c.args.volume.now.image c.args.volume.now.layout c.args.target.now) c.args.all.now

pub loop-found-preserved : goal.loop-found-preserved
loop-found-preserved c =
    passed_more (MayNotMove c.args.volume.now.image c.args.volume.now.layout c.args.target.now) c.args.all.now c.loop-found.found-index c.found-item.result c.loop-found-test.true c.found-item.is c.loop-found.invariant c.in_default.ensures.ok

pub returns-clause-ok : goal.returns-clause-ok
returns-clause-ok c = all_passed (MayNotMove c.args.volume.now.image c.args.volume.now.layout c.args.target.now) c.args.all.now c.loop-found.found-index c.loop-found-test.false c.loop-found.invariant

pub returns-in-Err-clause-err : goal.returns-in-Err-clause-err
returns-in-Err-clause-err c =
    elim c.in-Err.ensures.err [
      | inl kept ↦
          inl (first_kept (MayNotMove c.args.volume.now.image c.args.volume.now.layout c.args.target.now) c.args.all.now c.loop-found.found-index c.found-item.result c.deref.result.now c.in-Err.why c.of_path.result c.loop-found-test.true
          c.found-item.is c.loop-found.invariant kept c.of_path.ensures.why c.deref.ensures c.of_path.ensures.path)
      | inr none ↦ inr (c.of_path.ensures.why ∙ none)
    ]
