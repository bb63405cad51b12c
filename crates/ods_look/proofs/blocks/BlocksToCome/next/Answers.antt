use Rattle.std.proofs.Common.{◌≡◌, ◌∷◌, subst}
use Rattle.std.specs.Option.{IfSome}
use Rattle.ods_look.proofs.Coming.{others_inside}
use Rattle.ods_look.proofs.blocks.BlocksToCome.next.Goals as goal

pub invariant_of-self : goal.invariant_of-self
invariant_of-self c =
    let first = subst (λ o. IfSome o (λ lbn. c.self.inside.lbns ≡ lbn ∷ c.next.new.self)) c.unwrap-lbn.ensures c.next.ensures.some in
    others_inside c.self.inside.image.now c.self.inside.lbns c.unwrap-lbn.result c.next.new.self first c.self.invariant
