use Rattle.std.proofs.Common.{inl, inr, sym, subst, get_or, take}
use Rattle.std.specs.List.{Contains}
use Rattle.std.proofs.lemmas.List.{take_more, take_all}
use Rattle.std.proofs.lemmas.List.Elements.{Contains-get_or, Contains-push_cases}
use Rattle.ods_remains.specs.Shared.{NamesBlock}
use Rattle.ods_remains.proofs.shares.Shares.sharer.Goals as goal

pub returns-in-Some : goal.returns-in-Some
returns-in-Some c =
    let blocks = c.args.blocks.now in
    let i = c.loop-lbn.lbn-index in
    (c.in-Some.ensures.0, get_or blocks i 0, Contains-get_or blocks i 0 c.loop-lbn-test.true, c.in-Some.ensures.1)

pub loop-lbn-preserved : goal.loop-lbn-preserved
loop-lbn-preserved c = λ m lbn has names.
    let blocks = c.args.blocks.now in
    let i = c.loop-lbn.lbn-index in
    elim (Contains-push_cases (take i blocks) (get_or blocks i 0) lbn (subst (λ xs. Contains xs lbn) (take_more blocks i 0 c.loop-lbn-test.true) has)) [
      | inl before ↦ c.loop-lbn.invariant m lbn before names
      | inr same ↦ c.in_default.ensures m (subst (NamesBlock c.args.self.now.image c.args.self.now.layout m) (sym same) names)
    ]

pub returns : goal.returns
returns c = λ m lbn has.
    let blocks = c.args.blocks.now in
    c.loop-lbn.invariant m lbn (subst (λ xs. Contains xs lbn) (sym (take_all c.loop-lbn.lbn-index blocks c.loop-lbn-test.false)) has)
