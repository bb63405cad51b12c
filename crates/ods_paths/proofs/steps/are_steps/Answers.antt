use Rattle.ods_paths.specs.Views.{texts}
use Rattle.ods_paths.proofs.FileTexts.{fails}
use Rattle.ods_paths.proofs.StepTexts.{all_steps, bad_step, good_step, shorter}
use Rattle.ods_paths.proofs.steps.are_steps.Goals as goal

pub loop-text-smaller : goal.loop-text-smaller
loop-text-smaller c = shorter (texts c.loop-text.rest) (texts c.in-Some.behind) c.in-Some.text.now c.in-Some.ensures

pub loop-text-preserved : goal.loop-text-preserved
loop-text-preserved c = good_step (texts c.args.steps.now) (texts c.loop-text.rest) (texts c.in-Some.behind) c.in-Some.text.now c.loop-text.invariant c.in-Some.ensures (c.is_step.ensures.0 c.if-not-is_step.false)

pub returns-then-not-is_step : goal.returns-then-not-is_step
returns-then-not-is_step c = (
  λ t. absurd (cc),
  λ all. absurd (bad_step (texts c.args.steps.now) (texts c.loop-text.rest) (texts c.in-Some.behind) c.in-Some.text.now c.loop-text.invariant c.in-Some.ensures (fails c.is_step.ensures c.if-not-is_step.true) all),
)

pub returns : goal.returns
returns c = all_steps (texts c.args.steps.now) (texts c.loop-text.rest) c.loop-text.invariant c.in_default.ensures
