use Rattle.std.proofs.Common.{refl, sym, ◌∙◌}
use Rattle.ods_space.specs.Chain.{headers_of, numbers_of}
use Rattle.ods_mount.proofs.Sharing.{naming_first, naming_more, naming_there, naming_all, table_named, shared}
use Rattle.ods_mount.proofs.apart.check_apart.Goals as goal

pub of-headers-requires-clause-chain : goal.of-headers-requires-clause-chain
of-headers-requires-clause-chain c = let has = c.requires.whole in (has.1.others, has.0, has.1.whole.chain)

pub loop-header-init : goal.loop-header-init
loop-header-init c = record {
  naming = naming_first (headers_of c.args.disk.now.image.now c.args.disk.now.layout.now c.args.number) c.of-headers.result c.args.named.now c.of-headers.ensures;
  room = refl;
}

pub returns-then-contains-clause-err : goal.returns-then-contains-clause-err
returns-then-contains-clause-err c _ =
    let has = c.requires.whole in
    let numbers = numbers_of (headers_of c.args.disk.now.image.now c.args.disk.now.layout.now c.args.number) in
    shared c.args.disk.now.image.now c.args.disk.now.layout.now c.args.number has.0 c.len.ensures.image c.requires.layout has.1 c.args.named.now c.in-Some.header c.requires.table
    (naming_there numbers c.args.named.now c.loop-header.named c.loop-header.headers c.loop-header.invariant.naming (c.in-Some.header, c.in-Some.field-0-1.now) c.next.new.self c.in-Some.ensures.some.0
    (sym c.contains.ensures ∙ c.if-contains.true))

pub loop-header-preserved : goal.loop-header-preserved
loop-header-preserved c =
    let numbers = numbers_of (headers_of c.args.disk.now.image.now c.args.disk.now.layout.now c.args.number) in
    record {
      naming = naming_more numbers c.args.named.now c.loop-header.named c.loop-header.headers c.loop-header.invariant.naming (c.in-Some.header, c.in-Some.field-0-1.now) c.next.new.self c.in-Some.ensures.some.0
          c.insert.new.self (sym c.contains.ensures ∙ c.if-contains.false) c.insert.ensures.with;
      room = c.insert.ensures.room ∙ c.loop-header.invariant.room;
    }

pub returns-clause-ok : goal.returns-clause-ok
returns-clause-ok c =
    let has = c.requires.whole in
    let numbers = numbers_of (headers_of c.args.disk.now.image.now c.args.disk.now.layout.now c.args.number) in
    table_named c.args.disk.now.image.now c.args.disk.now.layout.now c.args.number has.0 c.len.ensures.image c.requires.layout has.1 c.args.named.now c.loop-header.named c.requires.table
    (naming_all numbers c.args.named.now c.loop-header.named c.loop-header.headers c.loop-header.invariant.naming c.in_default.ensures.none)
