use Rattle.std.proofs.Common.{◌∙◌, ap, rules, sym}
use Rattle.ods_request.specs.declared.answers.Answer.TheVariants as answer
use Rattle.ods_volume.proofs.Pools.{put_nothing, put_stat}
use Rattle.ods_volume.proofs.entries.put_answer.Goals as goal

pub returns-in-Created-clause-put : goal.returns-in-Created-clause-put
returns-in-Created-clause-put c = put_nothing c.args.block_pool.now.items c.args.stat_pool.now.items c.args.answer.now _ (sym c.in-Created.is) tt

pub returns-in-Extended-clause-put : goal.returns-in-Extended-clause-put
returns-in-Extended-clause-put c = put_nothing c.args.block_pool.now.items c.args.stat_pool.now.items c.args.answer.now _ (sym c.in-Extended.is) tt

pub returns-in-Truncated-clause-put : goal.returns-in-Truncated-clause-put
returns-in-Truncated-clause-put c = put_nothing c.args.block_pool.now.items c.args.stat_pool.now.items c.args.answer.now _ (sym c.in-Truncated.is) tt

pub returns-in-Done-clause-put : goal.returns-in-Done-clause-put
returns-in-Done-clause-put c = put_nothing c.args.block_pool.now.items c.args.stat_pool.now.items c.args.answer.now _ (sym c.in-Done.is) tt

pub returns-in-Entered-clause-put : goal.returns-in-Entered-clause-put
returns-in-Entered-clause-put c = put_nothing c.args.block_pool.now.items c.args.stat_pool.now.items c.args.answer.now _ (sym c.in-Entered.is) tt

pub returns-in-Found-clause-put : goal.returns-in-Found-clause-put
returns-in-Found-clause-put c = put_nothing c.args.block_pool.now.items c.args.stat_pool.now.items c.args.answer.now _ (sym c.in-Found.is) tt

pub returns-in-Removed-clause-put : goal.returns-in-Removed-clause-put
returns-in-Removed-clause-put c = put_nothing c.args.block_pool.now.items c.args.stat_pool.now.items c.args.answer.now _ (sym c.in-Removed.is) tt

pub returns-in-Names-clause-put : goal.returns-in-Names-clause-put
returns-in-Names-clause-put c = put_nothing c.args.block_pool.now.items c.args.stat_pool.now.items c.args.answer.now _ (ap answer.Names c.replace.ensures.value ∙ sym c.in-Names.is) tt

pub returns-in-Info-clause-put : goal.returns-in-Info-clause-put
returns-in-Info-clause-put c =
    put_stat c.args.block_pool.now.items c.args.stat_pool.now.items c.push_reserved-in-Info.new.self.items c.args.answer.now c.in-Info.stat c.len-at-in-Info.result c.in-Info.is (search rules) c.push_reserved-in-Info.ensures.items
