use Rattle.std.proofs.Common.{arith}
use Rattle.ods_check.proofs.Holding.{stamped_more}
use Rattle.ods_check.proofs.Pairs.{none_twice, shared_of_own}
use Rattle.ods_check.specs.Turns.{turn_of}
use Rattle.ods_check.proofs.Turning.{turn_none}
use Rattle.ods_check.proofs.sharing.push_own.Goals as goal

pub returns-then-is_new-clause-told : goal.returns-then-is_new-clause-told
returns-then-is_new-clause-told c = none_twice c.args.disk.now.image.now c.args.disk.now.layout.now c.args.faults.now.0 c.args.number c.args.lbns.now c.requires.whole (c.requires.new c.if-is_new.true)

pub push_common-requires-clause-shared : goal.push_common-requires-clause-shared
push_common-requires-clause-shared c =
    shared_of_own c.args.disk.now.image.now c.args.disk.now.layout.now c.args.number c.args.lbns.now c.in_ok-once.once c.in_ok-twice.twice c.insert_twice.new.twice c.requires.whole c.in_ok-once.ensures.empty c.in_ok-twice.ensures.empty c.insert_twice.ensures.twice

pub insert_twice-requires-clause-twice : goal.insert_twice-requires-clause-twice
insert_twice-requires-clause-twice c k d low =
    let inside = c.requires.whole.whole.inside k d low in
    let room = c.in_ok-twice.ensures.room in
    let size = c.len-2.ensures.value in
    omega arith

pub push_common-requires-clause-stamps : goal.push_common-requires-clause-stamps
push_common-requires-clause-stamps c i = let low = c.requires.stamps.low i in omega arith

pub returns-then-is_new-clause-stamps : goal.returns-then-is_new-clause-stamps
returns-then-is_new-clause-stamps c = stamped_more _ _ _ _ c.requires.stamps (omega arith)

pub returns-then-is_new-clause-once : goal.returns-then-is_new-clause-once
returns-then-is_new-clause-once c = turn_none turn_of _ _ c.args.faults.now
