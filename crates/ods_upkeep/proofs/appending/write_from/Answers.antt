use Rattle.std.proofs.Common.{◌≡◌, ◌-◌, ◌<◌, ◌≤◌, subst, arith}
use Rattle.std.proofs.lemmas.Result.{err_from_is_err_and}
use Rattle.ods_upkeep.specs.Appended.{writes}
use Rattle.ods_upkeep.specs.Removed.{Does}
use Rattle.ods_filing.specs.Put.{block_count}
use Rattle.ods_upkeep.proofs.Requests.{write_stops, wrote_one}
use Rattle.ods_upkeep.proofs.appending.write_from.Goals as goal

pub loop-k-preserved : goal.loop-k-preserved
loop-k-preserved c =
    let from : c.args.first ≤ c.loop-k.k = omega (arith, c.loop-k.auto.k) in
    wrote_one c.args.filing.now c.loop-k.filing c.obey.new.filing c.args.file c.args.all.now c.block_of.result c.args.first c.loop-k.k from c.loop-k.invariant c.block_of.ensures c.in_ok-obey.ensures.done

pub returns-in_err-obey-clause-refused : goal.returns-in_err-obey-clause-refused
returns-in_err-obey-clause-refused c =
    let p = err_from_is_err_and c.from_residual.result c.from_residual.ensures.1 in
    let from : c.args.first ≤ c.loop-k.k = omega (arith, c.loop-k.auto.k) in
    let under : c.loop-k.k < block_count c.args.all.now = omega (arith, c.loop-k-test.true, c.blocks_for-k-end.ensures) in
    rw (p.1, p.2) (write_stops c.args.filing.now c.loop-k.filing c.obey.new.filing c.args.file c.args.all.now c.block_of.result c.args.first c.loop-k.k (block_count c.args.all.now) _ from under c.loop-k.invariant c.block_of.ensures
    c.in_err-obey.ensures.unchanged c.in_err-obey.ensures.refused)

pub returns-clause-done : goal.returns-clause-done
returns-clause-done c =
    let at : c.loop-k.k - c.args.first ≡ block_count c.args.all.now - c.args.first = omega (arith, c.loop-k.auto.k, c.requires.within, c.loop-k.auto.k-end, c.loop-k-test.false, c.blocks_for-k-end.ensures) in
    subst (λ n. Does c.args.filing.now (writes c.args.file c.args.all.now c.args.first n) c.loop-k.filing) at c.loop-k.invariant
