use Rattle.std.proofs.Common.{arith}
use Rattle.ods_paths.proofs.RowLoops.{taking, taken, takes}
use Rattle.ods_paths.proofs.matching.take_one.Goals as goal

pub loop-place-init : goal.loop-place-init
loop-place-init c = taking c.args.character c.args.text.now c.args.row.now

pub loop-place-preserved : goal.loop-place-preserved
loop-place-preserved c = taken c.args.character c.args.text.now c.args.row.now c.loop-place.row c.loop-place.place c.leads.result c.requires c.loop-place-test.true c.loop-place.invariant c.leads.ensures

pub returns : goal.returns
returns c = takes c.args.character c.args.text.now c.args.row.now c.loop-place.row c.loop-place.place c.requires (omega (arith, c.loop-place.auto.place-end)) c.loop-place.invariant
