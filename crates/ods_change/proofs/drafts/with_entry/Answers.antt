use Rattle.std.proofs.Common.{◌<◌, ◌≤◌, ◌/◌, subst, sym, length, arith}
use Rattle.ods_space.specs.Layout.{header_at}
use Rattle.ods_space.specs.Chain.{chain_blocks}
use Rattle.ods_look.proofs.BlockPlaces.{is_located, located_is, located_inside}
use Rattle.ods_header.proofs.DirectoryHeaders.{is_apart}
use Rattle.ods_mount.specs.Faults.{contents_of}
use Rattle.ods_change.proofs.drafts.with_entry.Goals as goal
use Rattle.ods_change.proofs.drafts.with_entry.Goals.{After-locate_whole}

pub overflow_cast-vbn : goal.overflow_cast-vbn
overflow_cast-vbn c =
    let within : c.args.at / 512 < length c.args.opened.now.blocks = c.requires.within in
    let few : length c.args.opened.now.blocks ≤ chain_blocks = c.requires.directory.few in
    omega arith

pub locate_whole-requires-clause-whole : goal.locate_whole-requires-clause-whole
locate_whole-requires-clause-whole c = (c.requires.directory.lbns, c.requires.directory.held)

pub locate_whole-requires-clause-other : goal.locate_whole-requires-clause-other
locate_whole-requires-clause-other c = is_apart c.args.number (header_at c.args.disk.now.image.now c.args.disk.now.layout.now c.args.number) c.requires.directory.kind 1 (omega arith) (λ e. absurd (omega arith))

-- the block that has the entry is one of the directory's
within : (c : After-locate_whole) → c.entry_block.result < length (contents_of c.args.disk.now.image.now c.requires.directory.lbns)
within c = subst (λ bs. c.entry_block.result < length bs) c.requires.directory.contents (subst (λ k. k < length c.args.opened.now.blocks) (sym c.entry_block.ensures) c.requires.within)

pub unwrap-lbn-requires : goal.unwrap-lbn-requires
unwrap-lbn-requires c = is_located c.requires.directory.held c.entry_block.result (within (goal.at.unwrap-lbn-requires c).After-locate_whole) c.locate_whole.result c.locate_whole.ensures.none

pub block-requires : goal.block-requires
block-requires c =
    let held = c.requires.directory.held in
    let inside = within (goal.at.block-requires c).After-locate_whole in
    subst (λ x. x < length c.args.disk.now.image.now)
    (sym (located_is held c.entry_block.result inside c.locate_whole.result c.unwrap-lbn.result c.unwrap-lbn.ensures c.locate_whole.ensures.found))
    (located_inside held c.entry_block.result inside)
