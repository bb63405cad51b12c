use Rattle.std.proofs.Common.{◌↔◌, ◌≤◌, ℕ, List, subst, arith}
use Rattle.std.specs.List.{All}
use Rattle.std.proofs.lemmas.List.{take_all}
use Rattle.ods_paths.proofs.Bounds.{more_highest}
use Rattle.ods_paths.proofs.picking.highest.Goals as goal

pub loop-version-preserved : goal.loop-version-preserved
loop-version-preserved c = more_highest c.args.versions.now c.loop-version.version-index c.loop-version.most c.larger-most.result c.loop-version-test.true c.larger-most.ensures c.loop-version.invariant

pub returns : goal.returns
returns c = λ v. subst (λ (l : List ℕ). (c.loop-version.most ≤ v) ↔ All (λ w. w ≤ v) l) (take_all c.loop-version.version-index c.args.versions.now (omega arith)) (c.loop-version.invariant v)
