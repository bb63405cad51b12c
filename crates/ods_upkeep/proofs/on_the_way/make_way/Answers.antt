use Rattle.std.proofs.Common.{rules}
use Rattle.std.specs.String.{string_bytes}
use Rattle.std.proofs.lemmas.Result.{err_from_is_err_and}
use Rattle.ods_upkeep.proofs.WaysMade.{cut_shorter, leads_on, led_to, led_wrong}
use Rattle.ods_upkeep.proofs.on_the_way.make_way.Goals as goal

pub returns-in_err-make_step-clause-refused : goal.returns-in_err-make_step-clause-refused
returns-in_err-make_step-clause-refused c =
    let p = err_from_is_err_and c.from_residual.result c.from_residual.ensures.1 in
    rw (p.1, p.2)
    (led_wrong c.args.stamp c.args.path.now c.loop-part.rest.now c.in-Some.part.now c.in-Some.behind.now (string_bytes c.loop-part.way) c.args.filing.now c.loop-part.filing c.make_step.new.filing _
    c.loop-part.invariant.leads c.in-Some.ensures.cut c.in_err-make_step.ensures.refused)

pub loop-part-smaller : goal.loop-part-smaller
loop-part-smaller c = cut_shorter 47 c.loop-part.rest.now c.in-Some.part.now c.in-Some.behind.now c.in-Some.ensures.cut

pub loop-part-preserved : goal.loop-part-preserved
loop-part-preserved c = record {
  text = search rules;
  leads = leads_on c.args.stamp c.args.path.now c.loop-part.rest.now c.in-Some.part.now c.in-Some.behind.now (string_bytes c.loop-part.way) (string_bytes c.make_step.new.way) c.args.filing.now c.loop-part.filing
      c.make_step.new.filing c.loop-part.invariant.leads c.in-Some.ensures.cut c.in_ok-make_step.ensures.way c.in_ok-make_step.ensures.made;
}

pub returns-clause-made : goal.returns-clause-made
returns-clause-made c =
    led_to c.args.stamp c.args.path.now c.loop-part.rest.now (string_bytes c.loop-part.way) c.args.filing.now c.loop-part.filing c.loop-part.invariant.leads c.in_default.ensures.cut
