use Rattle.std.proofs.Common.{sym, subst, inl}
use Rattle.ods_upkeep.specs.Target.{SaysNoTarget}
use Rattle.ods_upkeep.proofs.targets.target_of.Goals as goal

pub returns-in-Err : goal.returns-in-Err
returns-in-Err c = (
  inl (subst (SaysNoTarget c.args.volume.now.image c.args.volume.now.layout c.args.to.now) (sym c.of_path-in-Err.ensures.why) c.in-Err.ensures),
  c.of_path-in-Err.ensures.path,
)
