use Rattle.std.proofs.Common.{◌≡◌, ◌++◌, ◌∷◌, [], ◌∙◌, sym, ap, append_assoc}
use Rattle.ods_look.proofs.Coming.{others_inside, tagged_more}
use Rattle.ods_look.proofs.noting.note_each.Goals as goal

pub loop-lbn-preserved : goal.loop-lbn-preserved
loop-lbn-preserved c =
    let first : c.loop-lbn.lbns ≡ c.in-Some.lbn ∷ c.next.new.self = c.in-Some.ensures.some in
    record {
      inside = others_inside c.args.image.now c.loop-lbn.lbns c.in-Some.lbn c.next.new.self first c.loop-lbn.invariant.inside;
      noted = ap (λ l. l ++ c.next.new.self) c.in_ok-push.ensures.items ∙ append_assoc c.loop-lbn.blocks.items (c.in-Some.lbn ∷ []) c.next.new.self ∙ ap (λ l. c.loop-lbn.blocks.items ++ l) (sym first) ∙ c.loop-lbn.invariant.noted;
      tagged = tagged_more c.args.image.now c.loop-lbn.blocks.items c.push.new.self.items c.in-Some.lbn c.loop-lbn.tags.items c.push-in-Some.new.self.items c.block_tags.result c.block.result.now c.loop-lbn.invariant.tagged
          c.in_ok-push.ensures.items c.in_ok-push-2.ensures.items c.block_tags.ensures c.block.ensures.value;
    }
