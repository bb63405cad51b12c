use Rattle.std.proofs.Common.{◌≡◌, ◌≢◌, ◌∙◌, refl, sym, inl, true, false, arith}
use Rattle.std.proofs.lemmas.Result.{err_from_is_err_and}
use Rattle.std.specs.Cmp.Lexicographic.{bytes_decides}
use Rattle.ods_request.specs.declared.requests.Request.TheVariants.{SetUser}
use Rattle.ods_filing.proofs.Led.{asked, then_led}
use Rattle.ods_upkeep.specs.Cut.{blocks_gone}
use Rattle.ods_upkeep.specs.Removed.{Does}
use Rattle.ods_upkeep.proofs.Cutting.{blocks_stay, end_stays, ends_anew, ends_as_before, gone_for}
use Rattle.ods_upkeep.proofs.Lists.{if_done}
use Rattle.ods_upkeep.proofs.Stopping.{if_failed}
use Rattle.ods_upkeep.proofs.truncating.cut.Goals as goal
use Rattle.ods_upkeep.proofs.truncating.cut.Goals.{In_ok-at_most}

pub returns-clause-led : goal.returns-clause-led
returns-clause-led c = then_led c.at_most.ensures.led (asked (SetUser c.args.facts.now.file c.in_ok-attributes.attributes) tt c.obey.ensures.asked)

-- the blocks are gone
gone : (c : In_ok-at_most) → Does c.args.filing.now (blocks_gone c.args.facts.now c.args.bytes) c.at_most.new.filing
gone c = gone_for c.args.filing.now c.at_most.new.filing c.args.facts.now c.args.bytes c.div_ceil.result c.div_ceil.ensures c.in_ok-at_most.ensures.done

pub returns-clause-done : goal.returns-clause-done
returns-clause-done c =
    let other : c.in_ok-attributes.attributes ≢ c.args.facts.now.attributes = λ same. (let both : false ≡ true = c.if-eq.ensures ∙ (bytes_decides c.in_ok-attributes.attributes c.args.facts.now.attributes).1 same in absurd (cc)) in
    if_done c.obey.result
    (ends_anew c.args.filing.now c.at_most.new.filing c.obey.new.filing c.args.facts.now c.args.bytes c.in_ok-attributes.attributes (gone (goal.at.returns-clause-done c).In_ok-at_most) c.in_ok-attributes.ensures.ok other)
    c.obey.ensures.done

pub returns-then-eq-clause-done : goal.returns-then-eq-clause-done
returns-then-eq-clause-done c =
    ends_as_before c.args.filing.now c.at_most.new.filing c.args.facts.now c.args.bytes c.in_ok-attributes.attributes (gone (goal.at.returns-then-eq-clause-done c).In_ok-at_most) c.in_ok-attributes.ensures.ok
    ((bytes_decides c.in_ok-attributes.attributes c.args.facts.now.attributes).0 (sym c.if-eq.ensures))

pub returns-in_err-attributes-clause-refused : goal.returns-in_err-attributes-clause-refused
returns-in_err-attributes-clause-refused c =
    let p = err_from_is_err_and c.from_residual.result c.from_residual.ensures.1 in
    rw (p.1, p.2) (inl (refl, c.in_err-attributes.ensures.err.0, omega (arith, c.in_err-attributes.ensures.err.1)))

pub returns-in_err-at_most-clause-refused : goal.returns-in_err-at_most-clause-refused
returns-in_err-at_most-clause-refused c =
    let p = err_from_is_err_and c.from_residual-in_err-at_most.result c.from_residual-in_err-at_most.ensures.1 in
    rw (p.1, p.2) (blocks_stay c.args.filing.now c.at_most.new.filing c.args.facts.now c.args.bytes c.div_ceil.result _ c.div_ceil.ensures c.in_err-at_most.ensures.refused)

pub returns-clause-refused : goal.returns-clause-refused
returns-clause-refused c =
    let other : c.in_ok-attributes.attributes ≢ c.args.facts.now.attributes = λ same. (let both : false ≡ true = c.if-eq.ensures ∙ (bytes_decides c.in_ok-attributes.attributes c.args.facts.now.attributes).1 same in absurd (cc)) in
    if_failed c.obey.result
    (λ same why refused. end_stays c.args.filing.now c.at_most.new.filing c.obey.new.filing c.args.facts.now c.args.bytes c.in_ok-attributes.attributes why (gone (goal.at.returns-clause-refused c).In_ok-at_most) c.in_ok-attributes.ensures.ok other
    same refused)
    c.obey.ensures.unchanged c.obey.ensures.refused
