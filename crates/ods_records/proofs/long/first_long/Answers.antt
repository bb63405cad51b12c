use Rattle.std.proofs.Common.{◌≤◌, length, arith}
use Rattle.ods_records.proofs.LongRecords.{short_record, short_unused, none_at_fault, none_at_end}
use Rattle.ods_records.proofs.long.first_long.Goals as goal

pub returns-in-Err-clause-none : goal.returns-in-Err-clause-none
returns-in-Err-clause-none c = none_at_fault c.args.kind c.args.bytes.now c.args.most c.loop-at.at c.loop-at.invariant c.in-Err.field-0 c.in-Err.ensures.err

pub loop-at-preserved-else-size-most : goal.loop-at-preserved-else-size-most
loop-at-preserved-else-size-most c =
    let few = c.if-size-most.false in
    short_record c.args.kind c.args.bytes.now c.args.most c.loop-at.at c.in-Ok.found.1 c.loop-at.invariant c.in-Some.record.now (rw c.in-Some.is at c.in-Ok.ensures.ok) (omega (arith, few))

pub loop-at-preserved : goal.loop-at-preserved
loop-at-preserved c = short_unused c.args.kind c.args.bytes.now c.args.most c.loop-at.at c.in-Ok.found.1 c.loop-at.invariant (rw c.in_default.is at c.in-Ok.ensures.ok)

pub returns-clause-none : goal.returns-clause-none
returns-clause-none c = none_at_end c.args.kind c.args.bytes.now c.args.most c.loop-at.at c.loop-at.invariant c.loop-at-test.false
