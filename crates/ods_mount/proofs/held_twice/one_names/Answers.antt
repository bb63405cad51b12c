use Rattle.ods_space.specs.Chain.{headers_of}
use Rattle.ods_mount.proofs.Naming.{sought_first, sought_here, sought_more, sought_none}
use Rattle.ods_mount.proofs.held_twice.one_names.Goals as goal

pub loop-header-init : goal.loop-header-init
loop-header-init c = sought_first c.args.lbn (headers_of c.args.disk.now.image.now c.args.disk.now.layout.now c.args.number) c.of-headers.result c.of-headers.ensures

pub of-headers-requires-clause-chain : goal.of-headers-requires-clause-chain
of-headers-requires-clause-chain c = let has = c.requires.whole in (has.1.others, has.0, has.1.whole.chain)

pub returns-then-names : goal.returns-then-names
returns-then-names c =
    sought_here c.args.lbn (headers_of c.args.disk.now.image.now c.args.disk.now.layout.now c.args.number) c.loop-header.headers c.loop-header.invariant (c.in-Some.field-0-0, c.in-Some.header.now) c.next.new.self c.in-Some.ensures.some.0 c.if-names.ensures

pub loop-header-preserved : goal.loop-header-preserved
loop-header-preserved c =
    sought_more c.args.lbn (headers_of c.args.disk.now.image.now c.args.disk.now.layout.now c.args.number) c.loop-header.headers c.loop-header.invariant (c.in-Some.field-0-0, c.in-Some.header.now) c.next.new.self c.in-Some.ensures.some.0 c.if-names.ensures

pub returns : goal.returns
returns c = sought_none c.args.lbn (headers_of c.args.disk.now.image.now c.args.disk.now.layout.now c.args.number) c.loop-header.headers c.loop-header.invariant c.in_default.ensures.none
