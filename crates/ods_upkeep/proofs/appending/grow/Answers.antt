use Rattle.std.proofs.Common.{◌≡◌, ◌<◌, ◌/◌, replicate, subst, arith}
use Rattle.std.proofs.lemmas.Result.{err_from_is_err_and}
use Rattle.ods_request.specs.declared.requests.Request.TheVariants.{Extend}
use Rattle.ods_upkeep.specs.Removed.{Does}
use Rattle.ods_upkeep.proofs.Requests.{one_again, rest_does, rest_stops, stops_again}
use Rattle.ods_upkeep.proofs.appending.grow.Goals as goal

pub loop-done-preserved : goal.loop-done-preserved
loop-done-preserved c = one_again c.args.filing.now c.loop-done.filing c.obey.new.filing (Extend c.args.file 65535) c.loop-done.done c.loop-done.invariant c.in_ok-obey.ensures.done

pub returns-in_err-obey-clause-refused : goal.returns-in_err-obey-clause-refused
returns-in_err-obey-clause-refused c =
    let p = err_from_is_err_and c.from_residual.result c.from_residual.ensures.1 in
    let under : c.loop-done.done < c.args.more / 65535 = omega (arith, c.loop-done-test.true) in
    rw (p.1, p.2) (stops_again c.args.filing.now c.loop-done.filing c.obey.new.filing (Extend c.args.file 65535) c.loop-done.done (c.args.more / 65535) _ _ under c.loop-done.invariant c.in_err-obey.ensures.unchanged c.in_err-obey.ensures.refused)

pub returns-clause-done : goal.returns-clause-done
returns-clause-done c =
    let at : c.loop-done.done ≡ c.args.more / 65535 = omega (arith, c.loop-done.auto.done-end, c.loop-done-test.false) in
    rest_does c.args.filing.now c.loop-done.filing c.grow_rest.new.filing (replicate (c.args.more / 65535) (Extend c.args.file 65535)) _ c.grow_rest.result
    (subst (λ n. Does c.args.filing.now (replicate n (Extend c.args.file 65535)) c.loop-done.filing) at c.loop-done.invariant) c.grow_rest.ensures.done

pub returns-clause-refused : goal.returns-clause-refused
returns-clause-refused c =
    let at : c.loop-done.done ≡ c.args.more / 65535 = omega (arith, c.loop-done.auto.done-end, c.loop-done-test.false) in
    rest_stops c.args.filing.now c.loop-done.filing c.grow_rest.new.filing (replicate (c.args.more / 65535) (Extend c.args.file 65535)) _ c.grow_rest.result
    (subst (λ n. Does c.args.filing.now (replicate n (Extend c.args.file 65535)) c.loop-done.filing) at c.loop-done.invariant) c.grow_rest.ensures.refused
