use Rattle.std.proofs.Common.{ap, subst, sym}
use Rattle.std.specs.Prelude.{slice_index}
use Rattle.std.proofs.lemmas.List.{drop_all}
use Rattle.ods_filing.proofs.Led.{stays, then_led}
use Rattle.ods_upkeep.specs.Refused.{HasPath, StopsAt}
use Rattle.ods_upkeep.specs.Removed.{one_gone, removals}
use Rattle.ods_upkeep.proofs.Gone.{next_goes, stops_here, stops_on}
use Rattle.ods_upkeep.proofs.Doing.{at_first, at_last}
use Rattle.ods_upkeep.proofs.removing.remove_all.Goals as goal

pub loop-found-init : goal.loop-found-init
loop-found-init c = record { led = stays c.args.filing.now; partly = at_first c.args.filing.now _; stops = λ new failure stop. stop }

pub loop-found-preserved : goal.loop-found-preserved
loop-found-preserved c =
    let so_far = c.loop-found.invariant in
    let done = c.in_default.ensures in
    let item = c.found-item in
    record {
      led = then_led so_far.led done.led;
      partly = next_goes c.args.filing.now c.loop-found.filing c.remove_one.new.filing c.args.removal.entry_alone (slice_index c.args.names.now) (slice_index c.loop-found.names) (slice_index c.remove_one.new.names)
          c.args.all.now c.loop-found.found-index item.result c.loop-found-test.true item.is so_far.partly done.done done.names;
      stops = λ new failure stop. so_far.stops new failure
          (stops_on c.loop-found.filing c.remove_one.new.filing new c.args.removal.entry_alone (slice_index c.loop-found.names) (slice_index c.remove_one.new.names) c.args.all.now c.loop-found.found-index item.result failure
          c.loop-found-test.true item.is done.done done.names stop);
    }

pub returns-clause-led : goal.returns-clause-led
returns-clause-led c = c.loop-found.invariant.led

pub returns-clause-done : goal.returns-clause-done
returns-clause-done c =
    at_last c.args.filing.now c.loop-found.filing _ _ c.loop-found.invariant.partly (ap (removals c.args.removal.entry_alone (slice_index c.loop-found.names)) (drop_all c.loop-found.found-index _ c.loop-found-test.false))

pub returns-in-Err-clause-led : goal.returns-in-Err-clause-led
returns-in-Err-clause-led c = then_led c.loop-found.invariant.led c.remove_one.ensures.led

pub returns-in-Err-clause-refused : goal.returns-in-Err-clause-refused
returns-in-Err-clause-refused c =
    let names = slice_index c.loop-found.names in
    let item = c.found-item in
    let stop = subst (λ why. StopsAt c.loop-found.filing (one_gone c.args.removal.entry_alone names item.result.place item.result.facts) c.remove_one.new.filing why) (sym c.of_path.ensures.why) c.in-Err.ensures.refused in
    c.loop-found.invariant.stops c.remove_one.new.filing c.of_path.result
    (stops_here c.loop-found.filing c.remove_one.new.filing c.args.removal.entry_alone names c.args.all.now c.loop-found.found-index item.result c.of_path.result c.loop-found-test.true item.is
    (subst (HasPath c.of_path.result) c.deref.ensures c.of_path.ensures.path) stop)
