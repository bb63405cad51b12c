use Rattle.std.proofs.Common.{inl, inr, arith}
use Rattle.ods_space.specs.Draft.{applied}
use Rattle.ods_alloc.proofs.Walking.{walk_begins, walk_goes_on, walk_is_over}
use Rattle.ods_alloc.proofs.end.drafted_end.Goals as goal

pub loop-k-init : goal.loop-k-init
loop-k-init c = (omega arith, λ C others all same chain. walk_begins _ C c.args.seen.now.disk.layout.now c.args.number others all c.args.first.now c.requires.file chain)

pub overflow_add-blocks : goal.overflow_add-blocks
overflow_add-blocks c = let before = c.loop-k.invariant.0 in let more = c.pointer_sum-blocks.ensures.few in let within = c.loop-k-test.true in omega (arith, before, more, within)

pub loop-k-preserved : goal.loop-k-preserved
loop-k-preserved c = (
  let before = c.loop-k.invariant.0 in let more = c.pointer_sum-blocks.ensures.few in omega (arith, before, more),
  λ C others all same chain.
      walk_goes_on (applied c.args.seen.now.disk.image.now c.args.seen.now.draft.now) C c.args.seen.now.disk.layout.now c.args.number others all c.loop-k.k c.loop-k.end c.loop-k.last.now c.loop-k.next same (c.loop-k.invariant.1 C others all same chain)
      c.in-Some.header.now c.next_number-next.result c.in-Some.ensures.some.is c.in-Some.ensures.some.valid c.next_number-next.ensures,
)

pub returns-in_default : goal.returns-in_default
returns-in_default c = λ C others all same few chain.
    walk_is_over (applied c.args.seen.now.disk.image.now c.args.seen.now.draft.now) C c.args.seen.now.disk.layout.now c.args.number others all c.loop-k.k c.loop-k.end c.loop-k.last.now c.loop-k.next same (c.loop-k.invariant.1 C others all same chain) (inl c.in_default.ensures.none) few

pub returns : goal.returns
returns c = λ C others all same few chain.
    walk_is_over (applied c.args.seen.now.disk.image.now c.args.seen.now.draft.now) C c.args.seen.now.disk.layout.now c.args.number others all c.loop-k.k c.loop-k.end c.loop-k.last.now c.loop-k.next same (c.loop-k.invariant.1 C others all same chain) (inr (let past = c.loop-k-test.false in omega (arith, past))) few
