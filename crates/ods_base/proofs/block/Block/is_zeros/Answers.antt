use Rattle.std.proofs.Common.{rules, ◌≡◌, ◌∙◌, ap, subst, arith}
use Rattle.std.proofs.lemmas.Bool.{eqb-true, eq-eqb}
use Rattle.ods_base.specs.Block.{IsBlock, byte}
use Rattle.ods_base.proofs.Blocks.{byte-zeros, zeros_by_bytes}
use Rattle.ods_base.proofs.block.Block.is_zeros.Goals as goal

pub returns-then-self-ne0 : goal.returns-then-self-ne0
returns-then-self-ne0 c = (
  λ f. absurd (cc),
  λ z. let first : byte c.self.inside.bytes 0 ≡ 0 = ap (λ b. byte b 0) (c.self.view_is ∙ z) ∙ byte-zeros 0 in absurd (c.if-self-ne0.true (search (rules, first))),
)

pub returns : goal.returns
returns c =
    let block = subst IsBlock c.self.view_is c.self.invariant in
    let end : c.loop-i.i ≡ 512 = search (rules) in (
      λ t. zeros_by_bytes c.args.self.now block (λ k below. c.loop-i.invariant.0 (eqb-true c.loop-i.most 0 t) k (omega (arith, end, below))),
      λ z. eq-eqb c.loop-i.most 0 (c.loop-i.invariant.1 (λ k below. ap (λ b. byte b k) z ∙ byte-zeros k)),
    )
