use Rattle.std.proofs.Common.{◌<◌, ◌≤◌, ap, sym, ◌∙◌, subst, length, List, ℕ, arith}
use Rattle.std.proofs.lemmas.List.{length-map}
use Rattle.ods_base.specs.Image.{block_at}
use Rattle.ods_space.specs.Chain.{chain_blocks}
use Rattle.std.specs.Option.{IfSome}
use Rattle.ods_look.specs.Blocks.{AreInOrder, blocks_in_order}
use Rattle.ods_look.proofs.NotedNames.{placed}
use Rattle.ods_look.proofs.BlockPlaces.{is_located, located_is, located_inside, block_of}
use Rattle.ods_look.proofs.blocks.DirectoryBlocksDirBlocks.block.Goals as goal

pub overflow_add-i : goal.overflow_add-i
overflow_add-i c =
    let s = c.self.inside in
    let order : List ℕ = blocks_in_order s.disk.image.now s.disk.layout.now s.number in
    let within : c.args.i < length order = subst (λ k. c.args.i < k) (ap length (sym c.self.view_is) ∙ length-map order (block_at s.disk.image.now)) c.requires in
    let few : length order ≤ chain_blocks = c.self.invariant.3 in
    omega arith

pub locate_whole-requires-clause-whole : goal.locate_whole-requires-clause-whole
locate_whole-requires-clause-whole c = let s = c.self.inside in (blocks_in_order s.disk.image.now s.disk.layout.now s.number, c.self.invariant.1)

pub locate_whole-requires-clause-other : goal.locate_whole-requires-clause-other
locate_whole-requires-clause-other c = c.self.invariant.5

pub unwrap-lbn-requires : goal.unwrap-lbn-requires
unwrap-lbn-requires c =
    is_located c.self.invariant.1 c.args.i (subst (λ v. c.args.i < length v) (sym c.self.view_is) c.requires) c.locate_whole.result c.locate_whole.ensures.none

pub block-requires-2 : goal.block-requires-2
block-requires-2 c =
    let s = c.self.inside in
    let within = subst (λ v. c.args.i < length v) (sym c.self.view_is) c.requires in
    subst (λ x. x < length s.disk.image.now) (sym (located_is c.self.invariant.1 c.args.i within c.locate_whole.result c.unwrap-lbn.result c.unwrap-lbn.ensures c.locate_whole.ensures.found))
    (located_inside c.self.invariant.1 c.args.i within)

pub returns-clause-value : goal.returns-clause-value
returns-clause-value c =
    let s = c.self.inside in
    let within = subst (λ v. c.args.i < length v) (sym c.self.view_is) c.requires in
    c.block-2.ensures.value
    ∙ ap (block_at s.disk.image.now) (located_is c.self.invariant.1 c.args.i within c.locate_whole.result c.unwrap-lbn.result c.unwrap-lbn.ensures c.locate_whole.ensures.found)
    ∙ block_of c.self.invariant.1 c.args.i within
    ∙ ap (λ bs. block_at bs c.args.i) c.self.view_is

pub block-requires : goal.block-requires
block-requires c =
    let s = c.self.inside in
    let I = s.disk.image.now in
    let order : List ℕ = blocks_in_order I s.disk.layout.now s.number in
    let same = subst (λ o. IfSome o (λ k. AreInOrder I s.disk.layout.now s.number k.now)) c.in-Some.is c.self.invariant.6 in
    let low : c.args.i < length order = subst (λ k. c.args.i < k) (ap length (sym c.self.view_is) ∙ length-map order (block_at I)) c.requires in
    let noted = placed order c.in-Some.known.now.blocks.items c.args.i c.index.result.now same.0 c.index.ensures low in
    let within = subst (λ v. c.args.i < length v) (sym c.self.view_is) c.requires in
    subst (λ x. x < length I) (sym noted) (located_inside c.self.invariant.1 c.args.i within)

pub returns-in-Some-clause-value : goal.returns-in-Some-clause-value
returns-in-Some-clause-value c =
    let s = c.self.inside in
    let I = s.disk.image.now in
    let order : List ℕ = blocks_in_order I s.disk.layout.now s.number in
    let same = subst (λ o. IfSome o (λ k. AreInOrder I s.disk.layout.now s.number k.now)) c.in-Some.is c.self.invariant.6 in
    let low : c.args.i < length order = subst (λ k. c.args.i < k) (ap length (sym c.self.view_is) ∙ length-map order (block_at I)) c.requires in
    let noted = placed order c.in-Some.known.now.blocks.items c.args.i c.index.result.now same.0 c.index.ensures low in
    let within = subst (λ v. c.args.i < length v) (sym c.self.view_is) c.requires in
    c.block.ensures.value ∙ ap (block_at I) noted ∙ block_of c.self.invariant.1 c.args.i within ∙ ap (λ bs. block_at bs c.args.i) c.self.view_is
