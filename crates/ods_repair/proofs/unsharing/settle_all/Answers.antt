use Rattle.std.proofs.Common.{arith}
use Rattle.ods_repair.proofs.OwnRuns.{own_runs}
use Rattle.ods_repair.proofs.unsharing.settle_all.Goals as goal

pub count_met-met-requires : goal.count_met-met-requires
count_met-met-requires c = record {
  room = λ k d low.
      let inside = c.requires.has.whole.inside k d low in
      let room = c.settle_runs-mapped.ensures.room in
      let long = c.settle_runs-mapped.ensures.moves.long in
      omega (arith, inside, room, long);
}

pub returns : goal.returns
returns c =
    let I = c.args.image.now in
    let sum = c.saturating_add.ensures in
    own_runs I c.settle_runs-mapped.new.image c.args.layout.now c.args.file c.settle_runs-mapped.result.0 c.settle_runs-mapped.result.1 c.settle_runs-mapped.new.seen c.args.blocks.now c.count_met-met.result c.requires.can c.requires.has
    c.settle_runs-mapped.ensures c.count_met-met.ensures.none c.count_met-met.ensures.some c.saturating_add.result
    (λ zero. (omega (arith, zero, sum), omega (arith, zero, sum))) (λ both. let one = both.0 in let two = both.1 in omega (arith, one, two, sum))
