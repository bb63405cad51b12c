use Rattle.std.proofs.Common.{◌≡◌, ◌+◌, ◌∙◌, false, sym, subst, arith, inl, inr}
use Rattle.std.proofs.lemmas.Bool.{cases_lt}
use Rattle.ods_mount.specs.Tables.{has}
use Rattle.ods_repair.proofs.unsharing.meets_run.Goals as goal

pub loop-k-init : goal.loop-k-init
loop-k-init c b low high = absurd (omega (arith, low, high))

pub returns-then-contains : goal.returns-then-contains
returns-then-contains c =
    let few = c.loop-k-test.true in
    (c.args.run.now.lbn + c.loop-k.k, (omega arith, omega (arith, few)), sym c.contains.ensures ∙ c.if-contains.true)

pub loop-k-preserved : goal.loop-k-preserved
loop-k-preserved c b low high = elim (cases_lt b (c.args.run.now.lbn + c.loop-k.k)) [
  | inl less ↦ c.loop-k.invariant b low less
  | inr more ↦
      let is : c.args.run.now.lbn + c.loop-k.k ≡ b = omega (arith, high, more) in
      subst (λ x. has c.args.set.now x ≡ false) is (sym c.contains.ensures ∙ c.if-contains.false)
]

pub returns : goal.returns
returns c = λ b inside. let low = inside.0 in let high = inside.1 in let end = c.loop-k-test.false in c.loop-k.invariant b low (omega (arith, high, end))
