use Rattle.std.proofs.Common.{refl, ◌∙◌}
use Rattle.ods_mount.proofs.Passing.{along_first, along_next, along_names, along_few, passed_none, passed_along}
use Rattle.ods_mount.proofs.file_blocks.check_blocks.Goals as goal

pub of-headers-requires-clause-chain : goal.of-headers-requires-clause-chain
of-headers-requires-clause-chain c = let has = c.requires.whole in (has.1.others, has.0, has.1.whole.chain)

pub loop-header-init : goal.loop-header-init
loop-header-init c = record {
  passed = passed_none c.args.disk.now.image.now c.args.disk.now.layout.now c.args.home_lbn c.args.number c.requires.whole.0 c.args.held.now c.requires.whole.1 c.requires.table;
  along = along_first c.args.disk.now.image.now c.args.disk.now.layout.now c.args.number c.of-headers.result c.of-headers.ensures;
  room = refl;
}

pub check_header_blocks-requires-clause-names : goal.check_header_blocks-requires-clause-names
check_header_blocks-requires-clause-names c =
    let has = c.requires.whole in
    along_names c.args.disk.now.image.now c.args.disk.now.layout.now c.args.number c.loop-header.first c.loop-header.headers c.loop-header.invariant.along has.0 c.len.ensures.image c.requires.layout has.1
    (c.in-Some.field-0-0, c.in-Some.header.now) c.next.new.self c.in-Some.ensures.some.0

pub check_header_blocks-requires-clause-fits : goal.check_header_blocks-requires-clause-fits
check_header_blocks-requires-clause-fits c =
    let has = c.requires.whole in
    along_few c.args.disk.now.image.now c.args.disk.now.layout.now c.args.number c.loop-header.first c.loop-header.headers c.loop-header.invariant.along has.0 c.len.ensures.image c.requires.layout has.1

pub loop-header-preserved : goal.loop-header-preserved
loop-header-preserved c = record {
  passed = c.in-Ok.ensures.passed;
  along = along_next c.args.disk.now.image.now c.args.disk.now.layout.now c.args.number c.loop-header.first c.loop-header.headers c.loop-header.invariant.along
      (c.in-Some.field-0-0, c.in-Some.header.now) c.next.new.self c.in-Ok.next c.in-Some.ensures.some.0 c.in-Ok.ensures.next.0;
  room = c.in-Ok.ensures.room ∙ c.loop-header.invariant.room;
}

pub returns-clause-file : goal.returns-clause-file
returns-clause-file c =
    let has = c.requires.whole in
    let all = passed_along c.args.disk.now.image.now c.args.disk.now.layout.now c.args.home_lbn c.args.number c.loop-header.first c.loop-header.headers c.loop-header.held has.0 c.loop-header.invariant.along c.loop-header.invariant.passed
    c.len.ensures.image c.requires.layout has.1 c.in_default.ensures.none in
    (has.0, has.1, all.1, all.2)

pub returns-clause-table : goal.returns-clause-table
returns-clause-table c =
    let has = c.requires.whole in
    (passed_along c.args.disk.now.image.now c.args.disk.now.layout.now c.args.home_lbn c.args.number c.loop-header.first c.loop-header.headers c.loop-header.held has.0 c.loop-header.invariant.along c.loop-header.invariant.passed
    c.len.ensures.image c.requires.layout has.1 c.in_default.ensures.none).0
