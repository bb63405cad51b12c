use Rattle.std.proofs.Common.{◌≡◌, ◌+◌, length}
use Rattle.std.specs.Vec.{vec_capacity}
use Rattle.ods_base.specs.Overlay.{HasReached}
use Rattle.ods_base.proofs.seats.reach.Given as goal

abbrev pub invariant-loop-k : goal.invariant-loop-k
invariant-loop-k l = HasReached (l.at + 1) l.initial.seats.items l.seats.items × (length l.seats.items ≡ l._k) × (vec_capacity l.seats ≡ vec_capacity l.initial.seats)
