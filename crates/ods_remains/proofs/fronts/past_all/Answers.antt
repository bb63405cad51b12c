use Rattle.std.proofs.Common.{◌<◌, inl, inr, sym, subst, get_or, take, arith}
use Rattle.std.specs.List.{Contains}
use Rattle.std.proofs.lemmas.List.{take_more, take_all}
use Rattle.std.proofs.lemmas.List.Elements.{Contains-push_cases}
use Rattle.ods_remains.proofs.fronts.past_all.Goals as goal

pub loop-lbn-preserved : goal.loop-lbn-preserved
loop-lbn-preserved c =
    let lbns = c.args.lbns.now in
    let i = c.loop-lbn.lbn-index in
    let was = c.loop-lbn.invariant.0 in
    let up = c.past_one-past.ensures.0 in
    let above = c.past_one-past.ensures.1 in (
      omega (arith, was, up),
      λ lbn has. elim (Contains-push_cases (take i lbns) (get_or lbns i 0) lbn (subst (λ xs. Contains xs lbn) (take_more lbns i 0 c.loop-lbn-test.true) has)) [
        | inl before ↦ let low = c.loop-lbn.invariant.1 lbn before in omega (arith, low, up)
        | inr same ↦ subst (λ k. k < c.past_one-past.result) same above
      ],
    )

pub returns-clause-above : goal.returns-clause-above
returns-clause-above c = λ lbn has.
    let lbns = c.args.lbns.now in
    c.loop-lbn.invariant.1 lbn (subst (λ xs. Contains xs lbn) (sym (take_all c.loop-lbn.lbn-index lbns c.loop-lbn-test.false)) has)
