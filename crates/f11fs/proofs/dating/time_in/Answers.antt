use Rattle.std.proofs.Common.{false, subst}
use Rattle.f11fs.specs.Dated.{IsTimeOf}
use Rattle.f11fs.proofs.dating.time_in.Goals as goal

pub returns : goal.returns
returns c = subst (λ n. IsTimeOf false c.args.run n c.small_time_in.result) c.in-Ok.ensures.1 c.small_time_in.ensures
