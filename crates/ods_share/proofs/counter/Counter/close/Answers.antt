use Rattle.std.proofs.Common.{◌≡◌, ◌<◌, length, sym, subst}
use Rattle.ods_state.specs.Version.{State}
use Rattle.ods_share.proofs.counter.Counter.close.Goals as goal

pub returns-clause-full : goal.returns-clause-full
returns-clause-full g c = subst (λ (v : State). 0 < c.self.inside.fulls.total → length v.entries ≡ v.limit) (sym c.close.ensures.volume) c.self.invariant
