use Rattle.std.proofs.Common.{sym, subst}
use Rattle.ods_upkeep.specs.Appended.{IsNotGrown}
use Rattle.ods_upkeep.proofs.LawsAppended.{led_grown, led_not}
use Rattle.ods_upkeep.proofs.appending.append_bytes.Goals as goal

pub returns-in-Ok-clause-led : goal.returns-in-Ok-clause-led
returns-in-Ok-clause-led c = led_grown c.args.facts.now c.args.bytes.now c.args.filing.now c.append.new.filing c.in-Ok.ensures.done

pub returns-in-Err-clause-led : goal.returns-in-Err-clause-led
returns-in-Err-clause-led c = led_not c.args.facts.now c.args.bytes.now c.args.filing.now c.append.new.filing c.in-Err.why c.in-Err.ensures.refused

pub returns-in-Err-clause-refused : goal.returns-in-Err-clause-refused
returns-in-Err-clause-refused c = (
  c.of_path.ensures.path,
  subst (IsNotGrown c.args.facts.now c.args.bytes.now c.args.filing.now c.append.new.filing) (sym c.of_path.ensures.why) c.in-Err.ensures.refused,
)
