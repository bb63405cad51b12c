use Rattle.std.proofs.Common.{sym, subst}
use Rattle.ods_state.specs.Outcome.{IsLawfulPlan, Plan}
use Rattle.ods_volume.specs.Kept.{AreLinesOf}
use Rattle.ods_volume.proofs.volume.Volume.store.Goals as goal

pub store_answered-requires-clause-plan : goal.store_answered-requires-clause-plan
store_answered-requires-clause-plan c = subst (IsLawfulPlan c.args.self.now) (sym c.prepared.view_is) c.requires

pub returns-clause-lines : goal.returns-clause-lines
returns-clause-lines c = subst (λ (p : Plan). AreLinesOf p.entry.answer c.prepared.inside.lines) c.prepared.view_is c.prepared.invariant.0
