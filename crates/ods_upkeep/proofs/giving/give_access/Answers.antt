use Rattle.std.proofs.Common.{subst, sym, refl}
use Rattle.std.proofs.lemmas.List.{drop_all}
use Rattle.ods_upkeep.specs.Given.{GetTheirs, GetsNotIts}
use Rattle.ods_upkeep.specs.Refused.{HasPath}
use Rattle.ods_upkeep.proofs.Gets.{theirs_at, theirs_behind, theirs_next}
use Rattle.ods_upkeep.proofs.giving.give_access.Goals as goal

pub loop-access-init : goal.loop-access-init
loop-access-init c = record { gets = λ new rest. rest; stops = λ new failure stop. stop }

pub loop-access-preserved : goal.loop-access-preserved
loop-access-preserved c =
    let so_far = c.loop-access.invariant in
    let item = c.access-item in
    let mid = c.loop-access.filing in
    let next = c.give_its.new.filing in
    record {
      gets = λ new rest. so_far.gets new
          (theirs_next c.args.all.now c.loop-access.access-index item.result c.loop-access-test.true item.is mid next new c.in_default.ensures.done rest);
      stops = λ new failure stop. so_far.stops new failure
          (theirs_behind c.args.all.now c.loop-access.access-index item.result c.loop-access-test.true item.is mid next new failure c.in_default.ensures.done stop);
    }

pub returns-clause-done : goal.returns-clause-done
returns-clause-done c =
    c.loop-access.invariant.gets c.loop-access.filing
    (subst (λ l. GetTheirs l c.loop-access.filing c.loop-access.filing) (sym (drop_all c.loop-access.access-index _ c.loop-access-test.false)) refl)

pub returns-in-Err-clause-refused : goal.returns-in-Err-clause-refused
returns-in-Err-clause-refused c =
    let item = c.access-item in
    c.loop-access.invariant.stops c.give_its.new.filing c.of_path.result
    (theirs_at c.args.all.now c.loop-access.access-index item.result c.loop-access-test.true item.is c.loop-access.filing c.give_its.new.filing c.of_path.result
    (subst (HasPath c.of_path.result) c.as_str.ensures.value c.of_path.ensures.path) c.in-Err.ensures.unchanged
    (subst (GetsNotIts item.result c.loop-access.filing) (sym c.of_path.ensures.why) c.in-Err.ensures.refused))
