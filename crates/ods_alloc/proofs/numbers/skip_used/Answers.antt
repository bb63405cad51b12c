use Rattle.std.proofs.Common.{◌+◌, ◌-◌, ◌*◌, ◌/◌, arith}
use Rattle.ods_space.specs.Layout.{is_in_use}
use Rattle.ods_alloc.specs.Scan.{is_clear}
use Rattle.ods_alloc.proofs.Scans.{further, one_less}
use Rattle.ods_alloc.proofs.WordBits.{not_bits}
use Rattle.ods_alloc.proofs.Counted.{none_counted}
use Rattle.ods_alloc.proofs.numbers.skip_used.Goals as goal

pub returns-in-Some-clause-used : goal.returns-in-Some-clause-used
returns-in-Some-clause-used c =
    let I = c.args.image.now in
    let h = c.args.home.now in
    let at = c.loop-at.at in
    let bits = not_bits (λ i. is_in_use I h (64 * ((at - 1) / 64) + i + 1)) c.used_word.result c.used_word.type_inv c.used_word.ensures in
    let next = c.in-Some.ensures.some (λ n. is_clear I h (n + 1)) bits in
    further (is_clear I h) c.args.from at (c.in-Some.bit + 1) c.loop-at.invariant.1 (one_less (is_clear I h) at c.in-Some.bit (omega (arith, c.loop-at.invariant.0)) next.least)

pub returns-in-Some-clause-stops : goal.returns-in-Some-clause-stops
returns-in-Some-clause-stops c = λ within.
    let I = c.args.image.now in
    let h = c.args.home.now in
    let bits = not_bits (λ i. is_in_use I h (64 * ((c.loop-at.at - 1) / 64) + i + 1)) c.used_word.result c.used_word.type_inv c.used_word.ensures in
    (c.in-Some.ensures.some (λ n. is_clear I h (n + 1)) bits).passes

pub loop-at-preserved-then-has_none : goal.loop-at-preserved-then-has_none
loop-at-preserved-then-has_none c =
    let p = is_clear c.args.image.now c.args.home.now in
    let at = c.loop-at.at in
    let none = c.requires.counts ((at - 1) / 4096) (c.has_none.ensures c.if-has_none.true) in (
      omega (arith, c.loop-at.invariant.0),
      further p c.args.from at (4096 * ((at - 1) / 4096 + 1) + 1) c.loop-at.invariant.1 (λ k above below. none_counted p (4096 * ((at - 1) / 4096) + 1) 4096 none k (omega arith) (omega arith)),
    )

pub loop-at-preserved : goal.loop-at-preserved
loop-at-preserved c =
    let I = c.args.image.now in
    let h = c.args.home.now in
    let at = c.loop-at.at in
    let bits = not_bits (λ i. is_in_use I h (64 * ((at - 1) / 64) + i + 1)) c.used_word.result c.used_word.type_inv c.used_word.ensures in
    let none = c.in_default.ensures.none (λ n. is_clear I h (n + 1)) bits in (
      omega (arith, c.loop-at.invariant.0),
      further (is_clear I h) c.args.from at (64 * ((at - 1) / 64 + 1) + 1) c.loop-at.invariant.1 (one_less (is_clear I h) at (64 * ((at - 1) / 64 + 1)) (omega (arith, c.loop-at.invariant.0)) none),
    )
