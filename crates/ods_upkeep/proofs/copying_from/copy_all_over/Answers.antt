use Rattle.std.proofs.Common.{refl, subst, sym}
use Rattle.std.proofs.lemmas.List.{drop_all}
use Rattle.ods_upkeep.specs.CopiedFrom.{AreCopiedOver}
use Rattle.ods_upkeep.specs.Refused.{HasPath}
use Rattle.ods_upkeep.specs.UncopiedFrom.{IsNotCopiedOver}
use Rattle.ods_upkeep.proofs.CopiesOver.{over_on, stops_over_here, stops_over_on}
use Rattle.ods_upkeep.proofs.Legs.{no_legs, then_legs}
use Rattle.ods_upkeep.proofs.copying_from.copy_all_over.Goals as goal

pub loop-found-init : goal.loop-found-init
loop-found-init c = record { led = λ anywhere. no_legs c.args.filing.now; copies = λ new copied. copied; stops = λ new failure stop. stop }

pub loop-found-preserved : goal.loop-found-preserved
loop-found-preserved c =
    let I = c.args.other.now.image.now in
    let L = c.args.other.now.layout.now in
    let so_far = c.loop-found.invariant in
    let one = c.in_default.ensures in
    let item = c.found-item in
    record {
      led = λ anywhere. then_legs (so_far.led anywhere) (one.led anywhere);
      copies = λ new copied. so_far.copies new
          (over_on I L c.args.how.now c.args.target.now c.args.stamp c.args.all.now c.loop-found.found-index item.result c.loop-found.filing c.copy_over.new.filing new c.loop-found-test.true item.is one.done copied);
      stops = λ new failure stop. so_far.stops new failure
          (stops_over_on I L c.args.how.now c.args.target.now c.args.stamp c.args.all.now c.loop-found.found-index item.result c.loop-found.filing c.copy_over.new.filing new failure c.loop-found-test.true item.is one.done stop);
    }

pub returns-clause-led : goal.returns-clause-led
returns-clause-led c = c.loop-found.invariant.led

pub returns-clause-done : goal.returns-clause-done
returns-clause-done c =
    let I = c.args.other.now.image.now in
    let L = c.args.other.now.layout.now in
    c.loop-found.invariant.copies c.loop-found.filing
    (subst (λ l. AreCopiedOver I L c.args.how.now c.args.target.now c.args.stamp l c.loop-found.filing c.loop-found.filing) (sym (drop_all c.loop-found.found-index c.args.all.now c.loop-found-test.false)) refl)

pub returns-in-Err-clause-refused : goal.returns-in-Err-clause-refused
returns-in-Err-clause-refused c =
    let I = c.args.other.now.image.now in
    let L = c.args.other.now.layout.now in
    let item = c.found-item in
    c.loop-found.invariant.stops c.copy_over.new.filing c.of_path.result
    (stops_over_here I L c.args.how.now c.args.target.now c.args.stamp c.args.all.now c.loop-found.found-index item.result c.loop-found.filing c.copy_over.new.filing c.of_path.result c.loop-found-test.true item.is
    (subst (HasPath c.of_path.result) c.deref.ensures c.of_path.ensures.path)
    (subst (λ why. IsNotCopiedOver I L c.args.how.now c.args.target.now c.args.stamp item.result c.loop-found.filing c.copy_over.new.filing why) (sym c.of_path.ensures.why) c.in-Err.ensures.refused))
