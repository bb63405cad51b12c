use Rattle.std.proofs.Common.{◌↔◌, ℕ, ◌≤◌, take}
use Rattle.std.specs.List.{All}
use Rattle.ods_paths.proofs.picking.lowest.Given as goal

abbrev pub invariant-loop-version : goal.invariant-loop-version
invariant-loop-version l = (v : ℕ) → v ≤ 65535 → ((v ≤ l.least) ↔ All (λ w. v ≤ w) (take l.version-index l.versions))
