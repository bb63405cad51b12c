use Rattle.std.proofs.Common.{◌<◌, length, ◌∙◌, arith}
use Rattle.std.specs.Prelude.{slice_index}
use Rattle.std.proofs.lemmas.Option.{slice_get-get_or}
use Rattle.ods_check.proofs.Counted.{counting_step, counted_size, counting_all}
use Rattle.ods_check.proofs.counting.count_of.Goals as goal

pub loop-i-preserved : goal.loop-i-preserved
loop-i-preserved c =
    let xs = c.args.numbers.now in
    let i = c.loop-i.i in
    let b = slice_index xs i in
    let old = c.loop-i.counted in
    let new = c.count_one-count.new.counted in
    let same = c.loop-i.invariant.size in
    let inside : b < length c.args.counted.now = c.requires.inside i 0 c.loop-i-test.true in
    record {
      counting = counting_step xs c.args.set.now c.args.stamp i b old new c.loop-i.count c.count_one-count.result c.loop-i.invariant.counting (slice_get-get_or xs i 0 c.loop-i-test.true) (omega arith) c.count_one-count.ensures;
      size = counted_size c.args.set.now b c.args.stamp old new c.count_one-count.result c.count_one-count.ensures ∙ same;
    }

pub returns-clause-count : goal.returns-clause-count
returns-clause-count c =
    let end = c.loop-i-test.false in
    counting_all c.args.numbers.now c.args.set.now c.args.stamp c.loop-i.i c.loop-i.counted c.loop-i.count (omega arith) c.loop-i.invariant.counting
