use Rattle.std.proofs.Common.{ap, sym, ◌∙◌, subst}
use Rattle.ods_mount.specs.Faults.{contents_of}
use Rattle.ods_space.specs.Files.{AreInside}
use Rattle.ods_look.specs.Blocks.{blocks_in_order}
use Rattle.ods_look.proofs.BlockPlaces.{named_in_order}
use Rattle.ods_look.proofs.blocks.DirectoryBlocksDirBlocks.cursor.Goals as goal

pub from-requires-clause-layout : goal.from-requires-clause-layout
from-requires-clause-layout c = c.self.invariant.0.layout

pub from-requires-clause-chain : goal.from-requires-clause-chain
from-requires-clause-chain c =
    let s = c.self.inside in
    let held = c.self.invariant.1 in
    (held.others, blocks_in_order s.disk.image.now s.disk.layout.now s.number, held.whole.chain)

pub from-requires-clause-first : goal.from-requires-clause-first
from-requires-clause-first c = c.self.invariant.4

pub invariant_of-result : goal.invariant_of-result
invariant_of-result c =
    let s = c.self.inside in
    subst (AreInside s.disk.image.now) (sym (c.from.ensures ∙ named_in_order s.disk.image.now s.disk.layout.now s.number)) c.self.invariant.1.whole.inside

pub returns : goal.returns
returns c =
    let s = c.self.inside in
    ap (contents_of s.disk.image.now) (c.from.ensures ∙ named_in_order s.disk.image.now s.disk.layout.now s.number) ∙ c.self.view_is
