use Rattle.std.proofs.Common.{◌++◌, ap, sym, ◌∙◌, subst}
use Rattle.ods_space.specs.Files.{AreInside}
use Rattle.ods_look.specs.Blocks.{AreTaggedBlocks, blocks_in_order}
use Rattle.ods_look.proofs.BlockPlaces.{in_order, named_in_order}
use Rattle.ods_look.proofs.noting.tagged_blocks.Goals as goal

pub from-lbns-requires-clause-chain : goal.from-lbns-requires-clause-chain
from-lbns-requires-clause-chain c = let held = in_order c.len.ensures.image c.requires.sound c.requires.file in (held.others, blocks_in_order c.args.disk.now.image.now c.args.disk.now.layout.now c.args.number, held.whole.chain)

pub note_each-requires-clause-inside : goal.note_each-requires-clause-inside
note_each-requires-clause-inside c =
    subst (AreInside c.args.disk.now.image.now) (sym (c.from-lbns.ensures ∙ named_in_order c.args.disk.now.image.now c.args.disk.now.layout.now c.args.number))
    (in_order c.len.ensures.image c.requires.sound c.requires.file).whole.inside

pub returns : goal.returns
returns c =
    let same = c.in_ok-note_each.ensures.blocks ∙ ap (λ l. l ++ c.from-lbns.result) c.in_ok-blocks.ensures.items ∙ c.from-lbns.ensures ∙ named_in_order c.args.disk.now.image.now c.args.disk.now.layout.now c.args.number in (
      blocks_in_order c.args.disk.now.image.now c.args.disk.now.layout.now c.args.number,
      in_order c.len.ensures.image c.requires.sound c.requires.file,
      same,
      subst (λ l. AreTaggedBlocks c.args.disk.now.image.now l c.note_each.new.tags.items) same c.in_ok-note_each.ensures.tags,
    )
