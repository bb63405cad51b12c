use Rattle.std.proofs.Common.{◌≤◌, ap, sym, ◌∙◌, subst, length}
use Rattle.std.proofs.lemmas.List.{length-map}
use Rattle.ods_base.specs.Image.{block_at}
use Rattle.ods_mount.specs.Faults.{contents_of}
use Rattle.ods_space.specs.Chain.{chain_blocks}
use Rattle.ods_look.specs.Blocks.{blocks_in_order}
use Rattle.ods_look.proofs.BlockPlaces.{in_order, few_blocks, blocks_are_one}
use Rattle.ods_look.proofs.blocks.DirectoryBlocks.of.Goals as goal

pub count_whole-count-requires-clause-whole : goal.count_whole-count-requires-clause-whole
count_whole-count-requires-clause-whole c = c.requires.sound.chains c.args.number c.requires.file

pub invariant_of-result : goal.invariant_of-result
invariant_of-result c =
    let held = in_order c.len.ensures.image c.requires.sound c.requires.file in (
      c.requires.sound,
      held,
      c.count_whole-count.ensures.2 ∙ ap length (blocks_are_one c.count_whole-count.ensures.1 held),
      few_blocks c.len.ensures.image held,
      c.requires.header,
      c.requires.other,
      tt,
    )

pub returns-clause-contents : goal.returns-clause-contents
returns-clause-contents c = λ held is. ap (contents_of c.args.disk.now.image.now) (blocks_are_one (in_order c.len.ensures.image c.requires.sound c.requires.file) is)

pub returns-clause-few : goal.returns-clause-few
returns-clause-few c =
    let held = in_order c.len.ensures.image c.requires.sound c.requires.file in
    subst (λ k. k ≤ chain_blocks) (sym (length-map (blocks_in_order c.args.disk.now.image.now c.args.disk.now.layout.now c.args.number) (block_at c.args.disk.now.image.now))) (few_blocks c.len.ensures.image held)
