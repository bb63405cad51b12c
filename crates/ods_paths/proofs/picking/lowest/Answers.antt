use Rattle.std.proofs.Common.{◌↔◌, ◌≤◌, ℕ, List, subst, arith}
use Rattle.std.specs.List.{All}
use Rattle.std.proofs.lemmas.List.{take_all}
use Rattle.ods_paths.proofs.Bounds.{more_lowest}
use Rattle.ods_paths.proofs.picking.lowest.Goals as goal

pub loop-version-preserved : goal.loop-version-preserved
loop-version-preserved c = more_lowest c.args.versions.now c.loop-version.version-index c.loop-version.least c.min-least.result c.loop-version-test.true c.min-least.ensures c.loop-version.invariant

pub returns : goal.returns
returns c = λ v fits. subst (λ (l : List ℕ). (v ≤ c.loop-version.least) ↔ All (λ w. v ≤ w) l) (take_all c.loop-version.version-index c.args.versions.now (omega arith)) (c.loop-version.invariant v fits)
