use Rattle.std.proofs.Common.{◌≡◌, ◌≤◌, ◌+◌, ap, sym, ◌∙◌, cond, arith}
use Rattle.ods_space.specs.Layout.{is_in_use}
use Rattle.ods_shell.proofs.Runs.{counted_more}
use Rattle.ods_shell.proofs.space.numbers_in_use.Goals as goal

pub loop-before-preserved : goal.loop-before-preserved
loop-before-preserved c =
    let one : c.one_if-count.result ≡ cond (is_in_use c.args.disk.now.image.now c.args.disk.now.layout.now.home (c.loop-before.before + 1)) 1 0 = c.one_if-count.ensures.value ∙ ap (λ b. cond b 1 0) c.in_use.ensures in
    let small : c.one_if-count.result ≤ 1 = c.one_if-count.ensures.small in
    let few : c.loop-before.count ≤ c.loop-before.before = c.loop-before.invariant.1 in (
      (λ i. c.loop-before.invariant.0 i + one i) ∙ sym (counted_more (is_in_use c.args.disk.now.image.now c.args.disk.now.layout.now.home) c.loop-before.before),
      omega arith,
    )
