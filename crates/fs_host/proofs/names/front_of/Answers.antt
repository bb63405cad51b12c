-- One place more where the name cannot be cut.
use Rattle.std.specs.Prelude.{◌-◌}
use Rattle.std.specs.Str.{IsCharBoundary}
use Rattle.std.proofs.Common.{arith}
use Rattle.std.proofs.lemmas.Str.{IsCharBoundary-start}
use Rattle.fs_host.proofs.Fronts.{next_uncut}
use Rattle.fs_host.proofs.names.front_of.Goals as goal

pub loop-end-preserved : goal.loop-end-preserved
loop-end-preserved c =
    let here : ¬ IsCharBoundary c.args.name.now (c.loop-end.end - 1) = c.in_default.ensures.cases (omega arith) (IsCharBoundary-start _ c.utf8.name) in
    next_uncut c.args.name.now c.args.most (c.loop-end.end - 1) here (λ i low. c.loop-end.invariant i (omega arith))
