use Rattle.std.proofs.Common.{◌+◌, ◌*◌, ◌/◌, arith, inl, inr}
use Rattle.std.proofs.lemmas.Bool.{cases_lt}
use Rattle.ods_space.specs.Free.{is_free_block}
use Rattle.ods_alloc.proofs.Scans.{further, next_further}
use Rattle.ods_alloc.proofs.Counted.{none_counted}
use Rattle.ods_alloc.proofs.FreeTests.{free_inside, not_free_past}
use Rattle.ods_alloc.proofs.free.next_free.Goals as goal

pub returns-in-Some-clause-few : goal.returns-in-Some-clause-few
returns-in-Some-clause-few c =
    let inside = free_inside c.args.disk.now.image.now c.args.disk.now.layout.now c.in-Some.lbn (c.in-Some.ensures.some (is_free_block c.args.disk.now.image.now c.args.disk.now.layout.now) c.free_word.ensures).passes in
    omega (arith, inside, c.len.ensures.image.size)

pub returns-in-Some-clause-some : goal.returns-in-Some-clause-some
returns-in-Some-clause-some c =
    let p = is_free_block c.args.disk.now.image.now c.args.disk.now.layout.now in
    next_further p c.args.from c.loop-at.at c.in-Some.lbn c.loop-at.invariant.0 c.loop-at.invariant.1 (c.in-Some.ensures.some p c.free_word.ensures)

pub loop-at-preserved-then-has_none : goal.loop-at-preserved-then-has_none
loop-at-preserved-then-has_none c =
    let p = is_free_block c.args.disk.now.image.now c.args.disk.now.layout.now in
    let at = c.loop-at.at in
    let none = c.requires (at / 4096) (c.has_none.ensures c.if-has_none.true) in
    (omega (arith, c.loop-at.invariant.0), further p c.args.from at (4096 * (at / 4096 + 1)) c.loop-at.invariant.1 (λ k above below. none_counted p (4096 * (at / 4096)) 4096 none k (omega arith) (omega arith)))

pub loop-at-preserved : goal.loop-at-preserved
loop-at-preserved c =
    let p = is_free_block c.args.disk.now.image.now c.args.disk.now.layout.now in
    let at = c.loop-at.at in
    let word = further p at (64 * (at / 64 + 1)) (64 * c.later_word-at.result) (c.in_default.ensures.none p c.free_word.ensures) c.later_word-at.ensures.none in
    (omega (arith, c.loop-at.invariant.0, c.later_word-at.ensures.on), further p c.args.from at (64 * c.later_word-at.result) c.loop-at.invariant.1 word)

pub returns-clause-none : goal.returns-clause-none
returns-clause-none c = λ k above. elim (cases_lt k c.loop-at.at) [
  | inl h ↦ c.loop-at.invariant.1 k above h
  | inr h ↦ not_free_past c.args.disk.now.image.now c.args.disk.now.layout.now k (omega (arith, c.len.ensures.value, c.loop-at-test.false))
]
