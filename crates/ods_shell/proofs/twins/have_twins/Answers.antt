use Rattle.std.proofs.Common.{◌≤◌, length, arith}
use Rattle.ods_shell.proofs.TwinsFound.{none_at_all, none_so_far, twins_found}
use Rattle.ods_shell.proofs.twins.have_twins.Goals as goal

pub loop-at-init : goal.loop-at-init
loop-at-init c = λ i small s. absurd (omega (arith, small))

pub returns-then-are_twins : goal.returns-then-are_twins
returns-then-are_twins c =
    twins_found c.args.found.now c.loop-at.at c.index-found-at.result c.index-found-at-in-loop-at.result (omega (arith, c.loop-at.auto.at)) c.loop-at-test.true c.index-found-at.is c.index-found-at-in-loop-at.is
    c.if-are_twins.ensures

pub loop-at-preserved : goal.loop-at-preserved
loop-at-preserved c =
    none_so_far c.args.found.now c.loop-at.at c.index-found-at.result c.index-found-at-in-loop-at.result (omega (arith, c.loop-at.auto.at)) c.loop-at-test.true c.index-found-at.is c.index-found-at-in-loop-at.is
    c.if-are_twins.ensures c.loop-at.invariant

pub returns : goal.returns
returns c = let end : length c.args.found.now ≤ c.loop-at.at = omega (arith, c.loop-at-test.false) in none_at_all c.args.found.now c.loop-at.at end c.loop-at.invariant
