use Rattle.std.proofs.Common.{◌≡◌, vec_len}
use Rattle.std.specs.Prelude.{All}
use Rattle.ods_views.specs.Viewers.{newly}
use Rattle.ods_share.proofs.desk.idle_viewers.Given as goal

abbrev pub invariant-loop : goal.invariant-loop
invariant-loop g l = (vec_len l.viewers ≡ l.counter) × All (λ x. x ≡ newly g.J.Naming.opening) l.viewers.items
