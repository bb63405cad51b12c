use Rattle.std.proofs.Common.{ℕ, List, length, subst, arith}
use Rattle.std.proofs.lemmas.List.{take_all}
use Rattle.ods_space.specs.Draft.{applied}
use Rattle.ods_alloc.specs.Extend.{IsIndexBitmap}
use Rattle.ods_alloc.specs.Marks.{MarksNumbers, IsIndexed, number_bit}
use Rattle.ods_alloc.proofs.ManyBits.{none_marked, one_number_marked, found_inside, index_inside, number_bit_inside}
use Rattle.ods_alloc.proofs.bitmap.mark_numbers.Goals as goal

pub loop-number-init : goal.loop-number-init
loop-number-init c = let L = c.args.disk.now.layout.now in none_marked (IsIndexed L) (IsIndexBitmap L) (number_bit L) (applied c.args.disk.now.image.now c.args.draft.now) c.args.used

pub number_bit-requires : goal.number_bit-requires
number_bit-requires c = let first = index_inside (length c.args.disk.now.image.now) c.args.disk.now.layout.now c.requires.places 0 (omega arith) in omega (arith, first, c.len.ensures.image.size)

pub put_bit-requires : goal.put_bit-requires
put_bit-requires c = found_inside (length c.args.disk.now.image.now) _ _ (number_bit_inside (length c.args.disk.now.image.now) c.args.disk.now.layout.now c.requires.places _) c.number_bit.result c.number_bit.ensures

pub loop-number-preserved : goal.loop-number-preserved
loop-number-preserved c =
    let I = c.args.disk.now.image.now in
    one_number_marked (length I) c.args.disk.now.layout.now c.requires.places (applied I c.args.draft.now) (applied I c.loop-number.draft) (applied I c.put_bit.new.draft) c.args.numbers.now c.loop-number.number-index c.args.used
    c.number_bit.result c.loop-number-test.true c.loop-number.invariant c.number_bit.ensures c.in_ok-put_bit.ensures

pub returns : goal.returns
returns c =
    let I = c.args.disk.now.image.now in
    let P : List ℕ → Type 0 = λ xs. MarksNumbers (applied I c.args.draft.now) c.args.disk.now.layout.now xs c.args.used (applied I c.loop-number.draft) in
    subst P (take_all c.loop-number.number-index c.args.numbers.now c.loop-number-test.false) c.loop-number.invariant
