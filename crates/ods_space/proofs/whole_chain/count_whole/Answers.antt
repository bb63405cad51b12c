use Rattle.std.proofs.Common.{length, ap, arith}
use Rattle.ods_space.specs.Chain.{named_by}
use Rattle.ods_space.proofs.Onward.{named_all, named_few}
use Rattle.ods_space.proofs.Located.{named_next}
use Rattle.ods_space.proofs.whole_chain.count_whole.Goals as goal

pub overflow_add-count : goal.overflow_add-count
overflow_add-count c =
    let whole = c.requires.whole in
    let few = named_few c.args.disk.now.image.now c.args.disk.now.layout.now c.args.number whole.0 c.len.ensures.image c.requires.layout whole.1 in
    let more = named_next c.loop-header.headers c.next.new.self (c.in-Some.field-0-0, c.in-Some.header.now) c.in-Some.ensures.some.0 c.pointer_sum-count.result c.pointer_sum-count.ensures.count in
    let before = c.loop-header.invariant in
    omega (arith, few, before, more)

pub loop-header-preserved : goal.loop-header-preserved
loop-header-preserved c =
    let more = named_next c.loop-header.headers c.next.new.self (c.in-Some.field-0-0, c.in-Some.header.now) c.in-Some.ensures.some.0 c.pointer_sum-count.result c.pointer_sum-count.ensures.count in
    let before = c.loop-header.invariant in
    omega (arith, before, more)

pub returns : goal.returns
returns c =
    let I = c.args.disk.now.image.now in
    let L = c.args.disk.now.layout.now in
    let whole = c.requires.whole in
    let all = ap length (named_all I L c.args.number whole.0 c.len.ensures.image c.requires.layout whole.1) in
    let none = ap (λ l. length (named_by l)) c.in_default.ensures.none in
    let before = c.loop-header.invariant in
    (whole.0, whole.1, omega (arith, all, none, before))
