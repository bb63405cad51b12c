use Rattle.std.proofs.Common.{ap, subst, sym, refl}
use Rattle.std.proofs.lemmas.List.{drop_all}
use Rattle.ods_upkeep.specs.Given.{GetAccess, GetsNone}
use Rattle.ods_upkeep.specs.Refused.{HasPath}
use Rattle.ods_upkeep.proofs.Gets.{gets_next, stops_at, stops_behind}
use Rattle.ods_upkeep.proofs.giving.give_all.Goals as goal

pub loop-found-init : goal.loop-found-init
loop-found-init c = record { gets = λ new rest. rest; stops = λ new failure stop. stop }

pub loop-found-preserved : goal.loop-found-preserved
loop-found-preserved c =
    let so_far = c.loop-found.invariant in
    let item = c.found-item in
    let mid = c.loop-found.filing in
    let next = c.give_one.new.filing in
    record {
      gets = λ new rest. so_far.gets new
          (gets_next c.args.owner c.args.protection c.args.all.now c.loop-found.found-index item.result c.loop-found-test.true item.is mid next new c.in_default.ensures.done rest);
      stops = λ new failure stop. so_far.stops new failure
          (stops_behind c.args.owner c.args.protection c.args.all.now c.loop-found.found-index item.result c.loop-found-test.true item.is mid next new failure c.in_default.ensures.done stop);
    }

pub returns-clause-done : goal.returns-clause-done
returns-clause-done c =
    c.loop-found.invariant.gets c.loop-found.filing
    (subst (λ l. GetAccess c.args.owner c.args.protection l c.loop-found.filing c.loop-found.filing) (sym (drop_all c.loop-found.found-index _ c.loop-found-test.false)) refl)

pub returns-in-Err-clause-refused : goal.returns-in-Err-clause-refused
returns-in-Err-clause-refused c =
    let item = c.found-item in
    c.loop-found.invariant.stops c.give_one.new.filing c.of_path.result
    (stops_at c.args.owner c.args.protection c.args.all.now c.loop-found.found-index item.result c.loop-found-test.true item.is c.loop-found.filing c.give_one.new.filing c.of_path.result
    (subst (HasPath c.of_path.result) c.deref.ensures c.of_path.ensures.path) c.in-Err.ensures.unchanged
    (subst (GetsNone item.result.facts c.loop-found.filing) (sym c.of_path.ensures.why) c.in-Err.ensures.refused))
