use Rattle.std.proofs.Common.{◌+◌, inl, inr, sym, ◌∙◌, arith}
use Rattle.ods_mount.proofs.Passing.{holds_inside, passed_more, passed_twice}
use Rattle.ods_mount.proofs.file_blocks.check_block.Goals as goal

pub double_use-requires-clause-twice : goal.double_use-requires-clause-twice
double_use-requires-clause-twice c = passed_twice c.args.disk.now.image.now c.args.disk.now.layout.now c.args.home_lbn c.args.number c.args.index c.args.held.now c.requires.passed c.args.lbn c.requires.holds (sym c.contains.ensures ∙ c.if-contains.true)

pub insert-requires : goal.insert-requires
insert-requires c =
    let inside = holds_inside c.args.disk.now.image.now c.args.disk.now.layout.now c.args.number (c.args.index + 1) c.args.lbn c.requires.holds in
    let room = c.requires.room in
    omega arith

pub returns-then-is_loose_place-clause-err : goal.returns-then-is_loose_place-clause-err
returns-then-is_loose_place-clause-err c _ =
    let loose = c.if-is_loose_place.ensures in
    inr (inr (inr (
      c.args.home_lbn,
      c.args.lbn,
      c.requires.home,
      loose.0,
      loose.1,
      inr (c.args.number, c.args.index + 1, c.requires.holds, λ e. loose.2 (inl e), λ e. loose.2 (inr (inl e)), λ p. loose.2 (inr (inr (p.0, let low = p.1 in omega arith)))),
    )))

pub returns-clause-ok : goal.returns-clause-ok
returns-clause-ok c =
    passed_more c.args.disk.now.image.now c.args.disk.now.layout.now c.args.home_lbn c.args.number c.args.index c.args.held.now c.requires.passed c.args.lbn c.requires.holds
    c.insert.new.self (sym c.contains.ensures ∙ c.if-contains.false) c.insert.ensures.with (sym c.is_free.ensures ∙ c.if-is_free.false) c.if-is_loose_place.ensures
