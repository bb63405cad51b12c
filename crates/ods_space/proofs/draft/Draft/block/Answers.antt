use Rattle.std.proofs.Common.{◌∙◌, ap, sym, arith}
use Rattle.std.specs.Prelude.{unwrap_or}
use Rattle.ods_base.specs.Image.{block_at}
use Rattle.ods_space.specs.Draft.{seen_at}
use Rattle.ods_space.proofs.Drafts.{looked_up, passed_over}
use Rattle.ods_space.proofs.draft.Draft.block.Goals as goal

pub returns-in-Some-clause-value : goal.returns-in-Some-clause-value
returns-in-Some-clause-value c =
    let cs = c.self.inside.changes.items in
    let b0 = block_at c.args.image.now c.args.lbn in
    let found = looked_up cs c.loop-k.k c.args.lbn c.index.result.now c.loop-k-test.true (omega arith) c.index.ensures c.loop-k.invariant c.in-Some.block.now c.in-Some.ensures.some in
    sym (ap (λ d. seen_at c.args.image.now d c.args.lbn) (sym c.self.view_is) ∙ ap (λ o. unwrap_or o b0) found)

pub loop-k-preserved : goal.loop-k-preserved
loop-k-preserved c =
    passed_over c.self.inside.changes.items c.loop-k.k c.args.lbn c.index.result.now c.loop-k-test.true (omega arith) c.index.ensures c.loop-k.invariant c.in_default.ensures.none
