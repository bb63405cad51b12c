use Rattle.std.proofs.Common.{◌≡◌, ◌∙◌, [], sym, subst, map, arith}
use Rattle.std.proofs.lemmas.Iterator.{items_from_drains}
use Rattle.std.proofs.lemmas.Iterator.Adapters.{YieldsList-from_vec}
use Rattle.ods_upkeep.specs.Sources.{AreFirst}
use Rattle.ods_upkeep.proofs.Again.{as_they_are, first_step, no_keys}
use Rattle.ods_upkeep.proofs.sources.each_once.Goals as goal

pub loop-found-init : goal.loop-found-init
loop-found-init c = record { keys = no_keys _ c.new-seen.ensures.empty; first = c.new-once.ensures.items }

pub loop-found-preserved : goal.loop-found-preserved
loop-found-preserved c =
    let told = c.in_ok-add_first.ensures c.loop-found.yielded c.loop-found.invariant.keys in
    record { keys = told.0; first = first_step c.loop-found.yielded _ _ c.in-Some.found c.loop-found.invariant.first told.1 }

pub returns : goal.returns
returns c =
    let given = c.into_iter-found-iterator.ensures.into_iter_gives in
    let all = YieldsList-from_vec c.args.all.items given.0 (omega (arith, given.1, c.args.all.ok.0)) in
    let whole : map (λ x. x) c.loop-found.yielded ≡ c.args.all.items = items_from_drains c.loop-found.yielded (_, c.loop-found.yielded_by, λ end. (c.next.new.self, c.in-None.ensures.steps)) all in
    subst (λ l. AreFirst [] l c.loop-found.once.items) (sym (as_they_are c.loop-found.yielded) ∙ whole) c.loop-found.invariant.first
