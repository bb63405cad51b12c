use Rattle.std.proofs.Common.{◌+◌, ◌≤◌, refl, inl, inr, arith}
use Rattle.ods_space.specs.Layout.{greatest_number, last_number}
use Rattle.ods_change.proofs.MoreHeaders.{has_more_headers}
use Rattle.ods_change.proofs.beginning.grow_headers.Goals as goal

pub returns-then-headers_left-count : goal.returns-then-headers_left-count
returns-then-headers_left-count c = let few = c.if-headers_left-count.true in inr (refl, inl (omega (arith, few, c.headers_left.ensures)))

pub begin-requires-clause-most : goal.begin-requires-clause-most
begin-requires-clause-most c = let enough = c.if-headers_left-count.false in omega (arith, enough, c.headers_left.ensures)

pub returns-in-Ok : goal.returns-in-Ok
returns-in-Ok c =
    let L = c.args.disk.now.layout.now in
    let enough = c.if-headers_left-count.false in
    let most : last_number L + c.args.count ≤ greatest_number L.home = omega (arith, enough, c.headers_left.ensures) in
    has_more_headers c.len.ensures.image c.requires.sound c.in-Ok.ensures.ok most c.in-Ok.ensures.begun

pub returns-in-Err : goal.returns-in-Err
returns-in-Err c = elim c.in-Err.ensures.err [
  | inl none ↦ inl none
  | inr lacks ↦ inr (
    lacks.0,
    inr (elim lacks.1 [
      | inl few ↦ inl (omega (arith, few))
      | inr full ↦ inr full
    ]),
  )
]
