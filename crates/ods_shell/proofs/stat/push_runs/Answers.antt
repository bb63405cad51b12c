use Rattle.ods_shell.proofs.RunTexts.{runs_more, start_low, start_next}
use Rattle.std.specs.String.{string_bytes}
use Rattle.ods_shell.proofs.stat.push_runs.Goals as goal

pub loop-at-preserved : goal.loop-at-preserved
loop-at-preserved c = (
  start_next c.args.lbns.now c.loop-at.at c.loop-at.from c.in_ok-from.from c.loop-at.invariant.0 c.in_ok-from.ensures.next,
  start_low c.args.lbns.now c.loop-at.at c.loop-at.from c.in_ok-from.from c.loop-at.invariant.1 c.in_ok-from.ensures.next,
  runs_more c.args.lbns.now c.loop-at.at c.loop-at.from (string_bytes c.args.text.now) (string_bytes c.loop-at.text) (string_bytes c.push_run.new.text) c.loop-at.invariant.0 c.loop-at.invariant.2 c.in_ok-from.ensures.text,
)
