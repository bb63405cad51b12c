use Rattle.std.specs.Prelude.{Some}
use Rattle.std.proofs.Common.{◌∙◌, ap, sym, arith, inl, inr}
use Rattle.ods_space.proofs.Drafts.{of_inside, of_outside}
use Rattle.ods_space.proofs.draft.Change.block.Goals as goal
use Rattle.ods_space.proofs.draft.Change.block.Goals.{else-self-lbn-via-then-self-lbn+else-lbn-self, else-self-lbn-via-else-self-lbn}

pub returns-then-lbn-self-clause-some : goal.returns-then-lbn-self-clause-some
returns-then-lbn-self-clause-some c = of_inside c.args.self.now c.args.lbn c.if-self-lbn.true (omega (arith, c.if-self-lbn.true, c.if-lbn-self.true)) ∙ ap Some (sym c.block.ensures.value)

pub returns-else-self-lbn-clause-none : goal.returns-else-self-lbn-clause-none
returns-else-self-lbn-clause-none c = of_outside c.args.self.now c.args.lbn (elim c.else-self-lbn.branch [
  | else-self-lbn-via-then-self-lbn+else-lbn-self w ↦ inr (omega (arith, w.if-self-lbn.true, w.if-lbn-self.false))
  | else-self-lbn-via-else-self-lbn w ↦ inl (omega (arith, w.if-self-lbn.false))
])
