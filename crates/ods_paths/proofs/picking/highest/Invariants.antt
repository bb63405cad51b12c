use Rattle.std.proofs.Common.{◌↔◌, ℕ, ◌≤◌, take}
use Rattle.std.specs.List.{All}
use Rattle.ods_paths.proofs.picking.highest.Given as goal

abbrev pub invariant-loop-version : goal.invariant-loop-version
invariant-loop-version l = (v : ℕ) → (l.most ≤ v) ↔ All (λ w. w ≤ v) (take l.version-index l.versions)
