use Rattle.std.proofs.Common.{◌≡◌, ◌+◌, arith, get_or, subst, inl, inr}
use Rattle.std.proofs.lemmas.Bool.{cases_lt}
use Rattle.ods_space.proofs.bitmap_blocks.run_of.Goals as goal

pub loop-run-init : goal.loop-run-init
loop-run-init c = (omega arith, λ j low. absurd (omega (arith, low)))

pub loop-run-preserved : goal.loop-run-preserved
loop-run-preserved c =
    let blocks = c.args.blocks.now in
    let run = c.loop-run.run in
    let here = c.if-blocks-run.true in
    let less = c.loop-run-test.true in (
      omega (arith, less, c.saturating_sub-size.ensures),
      λ j low. elim (cases_lt j run) [
        | inl before ↦ c.loop-run.invariant.1 j before
        | inr past ↦ let same : run ≡ j = omega (arith, low, past) in subst (λ n. get_or blocks (n + 1) 0 ≡ get_or blocks 1 0 + n) same here
      ],
    )

pub returns-else-blocks-run : goal.returns-else-blocks-run
returns-else-blocks-run c = record { within = c.loop-run.invariant.0; places = c.loop-run.invariant.1; longest = λ less. c.if-blocks-run.false }

pub returns-after-loop-run : goal.returns-after-loop-run
returns-after-loop-run c = record {
  within = c.loop-run.invariant.0;
  places = c.loop-run.invariant.1;
  longest = λ less. absurd (omega (arith, less, c.loop-run-test.false, c.saturating_sub-size.ensures));
}
