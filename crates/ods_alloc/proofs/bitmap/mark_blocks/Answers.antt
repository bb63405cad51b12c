use Rattle.std.proofs.Common.{ℕ, List, length, subst, IsTrue}
use Rattle.std.proofs.lemmas.List.{take_all}
use Rattle.ods_space.specs.Draft.{applied}
use Rattle.ods_space.specs.Free.{is_covered}
use Rattle.ods_alloc.specs.Extend.{IsStorageBitmap}
use Rattle.ods_alloc.specs.Marks.{MarksBlocks, block_bit}
use Rattle.ods_alloc.proofs.ManyBits.{none_marked, one_block_marked, found_inside, block_bit_inside}
use Rattle.ods_alloc.proofs.bitmap.mark_blocks.Goals as goal

pub loop-lbn-init : goal.loop-lbn-init
loop-lbn-init c = let L = c.args.disk.now.layout.now in none_marked (λ x. IsTrue (is_covered L x)) (IsStorageBitmap L) (block_bit L) (applied c.args.disk.now.image.now c.args.draft.now) c.args.free

pub put_bit-requires : goal.put_bit-requires
put_bit-requires c = found_inside (length c.args.disk.now.image.now) _ _ (block_bit_inside (length c.args.disk.now.image.now) c.args.disk.now.layout.now c.requires.places _) c.block_bit.result c.block_bit.ensures

pub loop-lbn-preserved : goal.loop-lbn-preserved
loop-lbn-preserved c =
    let I = c.args.disk.now.image.now in
    one_block_marked (length I) c.args.disk.now.layout.now c.requires.places (applied I c.args.draft.now) (applied I c.loop-lbn.draft) (applied I c.put_bit.new.draft) c.args.blocks.now c.loop-lbn.lbn-index c.args.free
    c.block_bit.result c.loop-lbn-test.true c.loop-lbn.invariant c.block_bit.ensures c.in_ok-put_bit.ensures

pub returns : goal.returns
returns c =
    let I = c.args.disk.now.image.now in
    let P : List ℕ → Type 0 = λ xs. MarksBlocks (applied I c.args.draft.now) c.args.disk.now.layout.now xs c.args.free (applied I c.loop-lbn.draft) in
    subst P (take_all c.loop-lbn.lbn-index c.args.blocks.now c.loop-lbn-test.false) c.loop-lbn.invariant
