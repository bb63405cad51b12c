use Rattle.std.proofs.Common.{refl, subst, sym}
use Rattle.std.proofs.lemmas.List.{drop_all}
use Rattle.std.proofs.lemmas.Result.{err_from_is_err_and}
use Rattle.ods_upkeep.specs.CopiedTree.{IsPlaceBelow}
use Rattle.ods_upkeep.proofs.CopiedTrees.{no_place_here, no_place_on, place_on}
use Rattle.ods_upkeep.proofs.copying_tree.place_below.Goals as goal

pub loop-name-init : goal.loop-name-init
loop-name-init c = record { leads = λ place new led. led; stops = λ why new stop. stop }

pub loop-name-preserved : goal.loop-name-preserved
loop-name-preserved c =
    let so_far = c.loop-name.invariant in
    let one = c.in_ok-next.ensures in
    let item = c.name-item in
    record {
      leads = λ place new led. so_far.leads place new
          (place_on c.args.stamp c.args.names.now c.loop-name.name-index item.result c.loop-name.place c.in_ok-next.next place c.loop-name.filing c.directory_below.new.filing new c.loop-name-test.true item.is one led);
      stops = λ why new stop. so_far.stops why new
          (no_place_on why c.args.stamp c.args.names.now c.loop-name.name-index item.result c.loop-name.place c.in_ok-next.next c.loop-name.filing c.directory_below.new.filing new c.loop-name-test.true item.is one stop);
    }

pub returns-clause-placed : goal.returns-clause-placed
returns-clause-placed c =
    c.loop-name.invariant.leads c.loop-name.place c.loop-name.filing
    (subst (λ l. IsPlaceBelow c.args.stamp c.loop-name.place l c.loop-name.filing c.loop-name.place c.loop-name.filing) (sym (drop_all c.loop-name.name-index c.args.names.now c.loop-name-test.false)) (refl, refl))

pub returns-in_err-next-clause-refused : goal.returns-in_err-next-clause-refused
returns-in_err-next-clause-refused c =
    let item = c.name-item in
    let p = err_from_is_err_and c.from_residual.result c.from_residual.ensures.1 in
    rw (p.1, p.2)
    (c.loop-name.invariant.stops _ c.directory_below.new.filing
    (no_place_here _ c.args.stamp c.args.names.now c.loop-name.name-index item.result c.loop-name.place c.loop-name.filing c.directory_below.new.filing c.loop-name-test.true item.is c.in_err-next.ensures))
