use Rattle.std.specs.Prelude.{map}
use Rattle.serde_json.specs.View.{view}
use Rattle.ods_shell.proofs.RunObjects.{runs_more}
use Rattle.ods_shell.proofs.RunTexts.{start_low, start_next}
use Rattle.ods_shell.proofs.info_runs.run_values.Goals as goal

pub loop-at-preserved : goal.loop-at-preserved
loop-at-preserved c = (
  start_next c.args.lbns.now c.loop-at.at c.loop-at.from c.in_ok-from.from c.loop-at.invariant.0 c.in_ok-from.ensures.next,
  start_low c.args.lbns.now c.loop-at.at c.loop-at.from c.in_ok-from.from c.loop-at.invariant.1 c.in_ok-from.ensures.next,
  runs_more c.args.lbns.now c.loop-at.at c.loop-at.from (map view c.loop-at.runs.items) (map view c.push_run_value.new.runs.items) c.loop-at.invariant.0 c.loop-at.invariant.2 c.in_ok-from.ensures.runs,
)
