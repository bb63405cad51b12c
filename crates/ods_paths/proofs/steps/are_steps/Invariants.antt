use Rattle.std.proofs.Common.{◌↔◌, length}
use Rattle.std.specs.List.{All}
use Rattle.ods_paths.specs.Steps.{IsStep}
use Rattle.ods_paths.specs.Views.{texts}
use Rattle.ods_paths.proofs.steps.are_steps.Given as goal

abbrev pub invariant-loop-text : goal.invariant-loop-text
invariant-loop-text l = All IsStep (texts l.steps) ↔ All IsStep (texts l.rest)

abbrev pub decreases-loop-text : goal.decreases-loop-text
decreases-loop-text l = length (texts l.rest)
