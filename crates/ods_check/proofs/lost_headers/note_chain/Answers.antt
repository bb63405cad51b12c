use Rattle.std.proofs.Common.{refl, ◌∙◌}
use Rattle.ods_space.specs.Chain.{headers_of, numbers_of}
use Rattle.ods_check.proofs.Reaching.{reaching_first, reaching_more, reaching_all, reached_of}
use Rattle.ods_check.proofs.lost_headers.note_chain.Goals as goal

pub loop-header-init : goal.loop-header-init
loop-header-init c = record {
  reaching = reaching_first (headers_of c.args.disk.now.image.now c.args.disk.now.layout.now c.args.number) c.of-headers.result c.args.reached.now c.of-headers.ensures;
  room = refl;
}

pub loop-header-preserved : goal.loop-header-preserved
loop-header-preserved c =
    let numbers = numbers_of (headers_of c.args.disk.now.image.now c.args.disk.now.layout.now c.args.number) in
    record {
      reaching = reaching_more numbers c.args.reached.now c.loop-header.reached c.loop-header.headers c.loop-header.invariant.reaching (c.in-Some.header, c.in-Some.field-0-1.now) c.next.new.self c.insert.new.self c.in-Some.ensures.some.0 c.insert.ensures.with;
      room = c.insert.ensures.room ∙ c.loop-header.invariant.room;
    }

pub returns-clause-with : goal.returns-clause-with
returns-clause-with c =
    let numbers = numbers_of (headers_of c.args.disk.now.image.now c.args.disk.now.layout.now c.args.number) in
    let chain = c.requires.chain in
    reached_of c.args.disk.now.image.now c.args.disk.now.layout.now c.args.number chain.0 chain.1 c.args.reached.now c.loop-header.reached c.len.ensures.image c.requires.layout chain.2
    (reaching_all numbers c.args.reached.now c.loop-header.reached c.loop-header.headers c.loop-header.invariant.reaching c.in_default.ensures.none)
