use Rattle.std.proofs.Common.{refl}
use Rattle.ods_space.specs.Chain.{headers_of}
use Rattle.ods_change.proofs.ChainCuts.{ends_here, never_ends, none_passed, one_passed}
use Rattle.ods_change.proofs.truncate_file.walked_place.Goals as goal

pub loop-at-init : goal.loop-at-init
loop-at-init c = none_passed (headers_of c.args.disk.now.image.now c.args.disk.now.layout.now c.args.number) c.from-headers.result c.args.count c.from-headers.ensures

pub loop-at-preserved : goal.loop-at-preserved
loop-at-preserved c =
    one_passed (headers_of c.args.disk.now.image.now c.args.disk.now.layout.now c.args.number) c.loop-at.headers c.args.count c.loop-at.left c.loop-at.invariant
    (c.in-Some.at, c.in-Some.header.now) c.next.new.self c.pointer_sum-has.result c.in-Some.ensures.some.0 c.pointer_sum-has.ensures.count c.if-left-has.false

pub returns-then-left-has : goal.returns-then-left-has
returns-then-left-has c =
    ends_here (headers_of c.args.disk.now.image.now c.args.disk.now.layout.now c.args.number) c.loop-at.headers c.args.count c.loop-at.left c.loop-at.invariant
    c.args.disk.now.image.now c.args.disk.now.layout.now c.args.number (record { number = c.in-Some.at; header = c.in-Some.header; left = c.loop-at.left; behind = c.next.new.self }) c.pointer_sum-has.result refl c.in-Some.ensures.some.0 refl c.pointer_sum-has.ensures.count c.if-left-has.true c.in-Some.ensures.some.1

pub unreachable-requires : goal.unreachable-requires
unreachable-requires c =
    let has = c.requires.chain in
    never_ends (headers_of c.args.disk.now.image.now c.args.disk.now.layout.now c.args.number) c.loop-at.headers c.args.count c.loop-at.left c.loop-at.invariant
    c.args.disk.now.image.now c.args.disk.now.layout.now c.args.number has.0 has.1 c.len.ensures.image c.requires.layout has.2 refl has.3 c.in_default.ensures.none
