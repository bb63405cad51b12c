use Rattle.std.proofs.Common.{◌+◌, ◌∙◌, sym, ap}
use Rattle.ods_directory.specs.Entry.{entry_in}
use Rattle.ods_directory.proofs.Folds.{fold_next}
use Rattle.ods_directory.proofs.scan.scan_block.Goals as goal

pub loop-k-preserved : goal.loop-k-preserved
loop-k-preserved g c =
    let after = g.G.Pass.after in
    c.take.ensures ∙ ap (λ s. after s (c.args.first + c.loop-k.k) (entry_in c.args.block.now c.loop-k.k)) c.loop-k.invariant
    ∙ sym (fold_next (λ s k. after s (c.args.first + k) (entry_in c.args.block.now k)) c.args.into.now c.loop-k.k)
