-- The others are at the front.
use Rattle.std.proofs.Common.{◌∙◌, ◌++◌, ◌-◌, ap, sym, take, rules}
use Rattle.fs_host.proofs.CutImages.{moved}
use Rattle.fs_host.proofs.whole_blocks.WholeBlocks.drop_front.Goals as goal

pub returns-clause-given : goal.returns-clause-given
returns-clause-given g c =
    let piece = c.args.self.now.piece in
    let held = c.args.self.now.held in
    moved piece c.args.count held c.requires (search rules)
    ∙ ap (λ l. take c.args.count piece ++ take (held - c.args.count) l) (sym c.copy_within.ensures.after)
