use Rattle.std.proofs.Common.{rules}
use Rattle.ods_volume.proofs.Changed.{none_known}
use Rattle.ods_volume.proofs.sound.Sound.new.Goals as goal

pub invariant_of-result : goal.invariant_of-result
invariant_of-result c = record { sound = search rules; counted = search rules; ended = none_known c.args.mounted.image c.args.mounted.layout c.new.result.ends c.new.ensures; named = tt }
