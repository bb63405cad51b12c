use Rattle.std.proofs.Common.{ap, ◌∙◌, ◌≡◌, ◌++◌, ◌∷◌, [], vec_capacity}
use Rattle.ods_state.specs.Outcome.{entry_of}
use Rattle.ods_volume.specs.Entries.{EntryList}
use Rattle.ods_volume.proofs.Pools.{entries_grown, pooled_grown}
use Rattle.ods_volume.proofs.entries.Entries.push_answered.Goals as goal

pub invariant_of-self : goal.invariant_of-self
invariant_of-self c =
    pooled_grown c.self.inside.rows.items c.push_reserved.new.self.items _ c.self.inside.block_pool.items c.put_answer-answer.new.block_pool.items c.self.inside.stat_pool.items c.put_answer-answer.new.stat_pool.items c.args.answer.now
    c.put_answer-answer.ensures.put (vec_capacity c.self.inside.rows) (vec_capacity c.self.inside.block_pool) (vec_capacity c.self.inside.stat_pool) c.self.invariant c.push_reserved.ensures.items
    (vec_capacity c.push_reserved.new.self) (vec_capacity c.put_answer-answer.new.block_pool) (vec_capacity c.put_answer-answer.new.stat_pool) c.push_reserved.ensures.capacity c.put_answer-answer.ensures.blocks_fit c.put_answer-answer.ensures.stats_fit

pub returns : goal.returns
returns c =
    let grown = entries_grown c.self.inside.rows.items c.push_reserved.new.self.items _ c.self.inside.block_pool.items c.put_answer-answer.new.block_pool.items c.self.inside.stat_pool.items c.put_answer-answer.new.stat_pool.items c.args.answer.now
    c.put_answer-answer.ensures.put (vec_capacity c.self.inside.rows) (vec_capacity c.self.inside.block_pool) (vec_capacity c.self.inside.stat_pool) c.self.invariant c.push_reserved.ensures.items in
    let inside : _ ≡ record { items = _; room = _ } = λ i. record { items = grown i; room = c.push_reserved.ensures.capacity i } in
    inside ∙ ap (λ (l : EntryList). record { items = l.items ++ entry_of c.args.session c.args.nth c.args.who c.args.request c.args.answer.now ∷ []; room = l.room }) c.self.view_is
