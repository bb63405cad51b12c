use Rattle.std.proofs.Common.{◌∙◌, arith, ◌+◌}
use Rattle.ods_space.specs.Chain.{index_for}
use Rattle.ods_space.proofs.Sizes.{chain_size}
use Rattle.ods_check.specs.declared.fault_line.FaultLine.TheVariants.{Shared}
use Rattle.ods_check.specs.Lines.{IsLineOf}
use Rattle.ods_check.proofs.Adding.{adds_one, told_one}
use Rattle.ods_check.proofs.Pairs.{none_shared, pair_shares}
use Rattle.ods_check.specs.Turns.{turn_of, pair_turn}
use Rattle.ods_check.proofs.Turning.{turn_none, turn_one}
use Rattle.ods_check.proofs.sharing.push_common.Goals as goal

pub returns-in_default-clause-told : goal.returns-in_default-clause-told
returns-in_default-clause-told c =
    none_shared c.args.disk.now.image.now c.args.disk.now.layout.now c.args.faults.now.0 c.args.one c.args.other c.args.lbns.now c.args.shared.now c.requires.whole c.requires.shared c.in_default.ensures.none

pub returns-clause-adds : goal.returns-clause-adds
returns-clause-adds c =
    let count = c.count_of-count.ensures.count in
    adds_one (IsLineOf c.args.disk.now.image.now c.args.disk.now.layout.now) _ _ (Shared c.args.one c.args.other c.in-Some.lbn c.count_of-count.result) c.in_ok-push.ensures
    (pair_shares c.args.disk.now.image.now c.args.disk.now.layout.now c.args.one c.args.other c.args.lbns.now c.args.shared.now count.0 c.in-Some.lbn c.count_of-count.result c.requires.whole c.requires.shared c.in-Some.ensures.some count.1 count.2)

pub returns-clause-told : goal.returns-clause-told
returns-clause-told c b share = (c.in-Some.lbn, c.count_of-count.result, told_one _ _ (Shared c.args.one c.args.other c.in-Some.lbn c.count_of-count.result) c.in_ok-push.ensures)

pub count_of-count-requires-clause-few : goal.count_of-count-requires-clause-few
count_of-count-requires-clause-few c =
    let has = c.requires.whole in
    let small = chain_size c.args.disk.now.image.now c.args.disk.now.layout.now.home (index_for c.args.disk.now.layout.now c.args.one) c.args.one has.others c.args.lbns.now c.len.ensures.image has.whole.chain in
    omega arith

pub returns-in_default-clause-stamps : goal.returns-in_default-clause-stamps
returns-in_default-clause-stamps c = record { size = c.requires.size; low = λ i. let below = c.requires.stamps i in omega arith }

pub returns-in_err-push-clause-stamps : goal.returns-in_err-push-clause-stamps
returns-in_err-push-clause-stamps c = record { size = c.count_of-count.ensures.size ∙ c.requires.size; low = c.count_of-count.ensures.counted }

pub returns-clause-stamps : goal.returns-clause-stamps
returns-clause-stamps c = record { size = c.count_of-count.ensures.size ∙ c.requires.size; low = c.count_of-count.ensures.counted }

pub returns-in_default-clause-once : goal.returns-in_default-clause-once
returns-in_default-clause-once c = turn_none turn_of _ _ c.args.faults.now

pub returns-clause-once : goal.returns-clause-once
returns-clause-once c =
    let t = pair_turn c.args.one c.args.other in
    turn_one turn_of t (t + 1) _ _ (Shared c.args.one c.args.other c.in-Some.lbn c.count_of-count.result) c.in_ok-push.ensures (omega arith) (omega arith)
