use Rattle.std.proofs.Common.{◌≡◌, ◌≤◌, map}
use Rattle.std.specs.List.{All}
use Rattle.ods_share.proofs.run.audit.Given as goal

abbrev pub invariant-loop-one : goal.invariant-loop-one
invariant-loop-one g l =
    (l.ended.items ≡ map (λ s. s.ended) l.yielded) × All (λ s. s.fulls.amount ≤ l.fn.fulls.total) l.yielded × (l.fulls.total ≡ l.fn.fulls.total)
