use Rattle.std.proofs.Common.{◌≡◌, ◌+◌, ap, sym, ◌∙◌, subst, arith, inl, inr}
use Rattle.std.proofs.lemmas.Bool.{cases_lt}
use Rattle.ods_header.specs.declared.home.Home.{Home}
use Rattle.ods_space.specs.Free.{is_open_number}
use Rattle.ods_alloc.specs.Scan.{NonePasses, is_clear}
use Rattle.ods_alloc.specs.Counts.{ShowsNone, clear_in}
use Rattle.ods_alloc.proofs.Scans.{further}
use Rattle.ods_alloc.proofs.FreeTests.{not_open_low, not_open_high, none_open}
use Rattle.ods_alloc.proofs.numbers.next_open_number.Goals as goal

pub loop-at-init : goal.loop-at-init
loop-at-init c =
    let I = c.args.disk.now.image.now in
    let L = c.args.disk.now.layout.now in
    let at = c.skip_used-at.result in
    let P : Home → Type 0 = λ h. NonePasses (is_clear I h) c.max.result at in (
      omega (arith, c.skip_used-at.ensures.above, c.max.ensures),
      omega (arith, c.skip_used-at.ensures.above, c.max.ensures),
      further (is_open_number I L c.args.most) c.args.from c.max.result at (λ k above below. not_open_low I L c.args.most k (omega (arith, c.max.ensures))) (none_open I L c.args.most c.max.result at (subst P c.home-home.ensures c.skip_used-at.ensures.used)),
    )

pub loop-at-preserved : goal.loop-at-preserved
loop-at-preserved c =
    let I = c.args.disk.now.image.now in
    let L = c.args.disk.now.layout.now in
    let at = c.loop-at.at in
    let next = c.skip_used-at-in-loop-at.result in
    let above_at = c.skip_used-at-in-loop-at.ensures.above in
    let P : Home → Type 0 = λ h. NonePasses (is_clear I h) (at + 1) next in
    let here : NonePasses (is_open_number I L c.args.most) at (at + 1) = λ k above below. let one : k ≡ at = omega (arith, above, below) in ap (is_open_number I L c.args.most) one ∙ sym c.if-is_number_open.ensures in (
      omega arith,
      omega (arith, c.loop-at.invariant.1),
      further (is_open_number I L c.args.most) c.args.from (at + 1) next (further (is_open_number I L c.args.most) c.args.from at (at + 1) c.loop-at.invariant.2 here) (none_open I L c.args.most (at + 1) next (subst P c.home-home.ensures c.skip_used-at-in-loop-at.ensures.used)),
    )

pub returns-clause-none : goal.returns-clause-none
returns-clause-none c = λ k above. elim (cases_lt k c.loop-at.at) [
  | inl earlier ↦ c.loop-at.invariant.2 k above earlier
  | inr later ↦ not_open_high c.args.disk.now.image.now c.args.disk.now.layout.now c.args.most k (omega (arith, c.loop-at-test.false))
]

pub skip_used-at-requires-clause-counts : goal.skip_used-at-requires-clause-counts
skip_used-at-requires-clause-counts c = subst (λ h. ShowsNone c.args.counts.now (clear_in c.args.disk.now.image.now h)) (sym c.home-home.ensures) c.requires.counts

pub skip_used-at-requires-in-loop-at-clause-counts : goal.skip_used-at-requires-in-loop-at-clause-counts
skip_used-at-requires-in-loop-at-clause-counts c = subst (λ h. ShowsNone c.args.counts.now (clear_in c.args.disk.now.image.now h)) (sym c.home-home.ensures) c.requires.counts

pub returns-then-is_number_open-clause-some : goal.returns-then-is_number_open-clause-some
returns-then-is_number_open-clause-some c = record { above = c.loop-at.invariant.1; passes = sym c.is_number_open.ensures ∙ c.if-is_number_open.true; least = c.loop-at.invariant.2 }
