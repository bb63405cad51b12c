use Rattle.std.proofs.Common.{refl, subst, sym}
use Rattle.std.proofs.lemmas.List.{drop_all}
use Rattle.ods_filing.proofs.Led.{stays, then_led}
use Rattle.ods_upkeep.specs.Moved.{AreMoved, IsNotMoving}
use Rattle.ods_upkeep.specs.Refused.{HasPath}
use Rattle.ods_upkeep.proofs.Moves.{moved_on, stops_here, stops_on}
use Rattle.ods_upkeep.proofs.moving.move_all.Goals as goal

pub loop-found-init : goal.loop-found-init
loop-found-init c = record { led = stays c.args.filing.now; moves = λ new moved. moved; stops = λ new failure stop. stop }

pub loop-found-preserved : goal.loop-found-preserved
loop-found-preserved c =
    let so_far = c.loop-found.invariant in
    let done = c.in_default.ensures in
    let item = c.found-item in
    record {
      led = then_led so_far.led done.led;
      moves = λ new moved. so_far.moves new
          (moved_on c.loop-found.filing c.rename.new.filing new c.args.target.now c.args.all.now c.loop-found.found-index item.result c.loop-found-test.true item.is done.free done.done moved);
      stops = λ new failure stop. so_far.stops new failure
          (stops_on c.loop-found.filing c.rename.new.filing new c.args.target.now c.args.all.now c.loop-found.found-index item.result failure c.loop-found-test.true item.is done.free done.done stop);
    }

pub returns-clause-led : goal.returns-clause-led
returns-clause-led c = c.loop-found.invariant.led

pub returns-clause-done : goal.returns-clause-done
returns-clause-done c =
    c.loop-found.invariant.moves c.loop-found.filing
    (subst (λ l. AreMoved c.args.target.now l c.loop-found.filing c.loop-found.filing) (sym (drop_all c.loop-found.found-index c.args.all.now c.loop-found-test.false)) refl)

pub returns-in-Err-clause-led : goal.returns-in-Err-clause-led
returns-in-Err-clause-led c = then_led c.loop-found.invariant.led c.rename.ensures.led

pub returns-in-Err-clause-refused : goal.returns-in-Err-clause-refused
returns-in-Err-clause-refused c =
    let item = c.found-item in
    c.loop-found.invariant.stops c.rename.new.filing c.of_path.result
    (stops_here c.loop-found.filing c.rename.new.filing c.args.target.now c.args.all.now c.loop-found.found-index item.result c.of_path.result c.loop-found-test.true item.is
    (subst (HasPath c.of_path.result) c.deref.ensures c.of_path.ensures.path)
    (subst (λ why. IsNotMoving c.args.target.now item.result.place c.loop-found.filing c.rename.new.filing why) (sym c.of_path.ensures.why) c.in-Err.ensures.refused))
