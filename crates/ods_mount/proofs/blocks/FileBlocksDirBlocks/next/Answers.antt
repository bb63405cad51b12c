use Rattle.std.proofs.Common.{◌∙◌}
use Rattle.ods_mount.proofs.Coming.{block_there}
use Rattle.ods_mount.proofs.blocks.FileBlocksDirBlocks.next.Goals as goal

pub returns : goal.returns
returns c = λ b rest is.
    let there = block_there c.args.self.now.image.now c.args.self.now.lbns.now c.args.cursor.now b rest is in
    (c.block.ensures.value ∙ there.0, there.1)
