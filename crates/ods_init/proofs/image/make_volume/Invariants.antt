use Rattle.ods_init.proofs.Building.{StandTo}
use Rattle.ods_init.proofs.image.make_volume.Given as goal

abbrev pub invariant-loop-lbn : goal.invariant-loop-lbn
invariant-loop-lbn l = StandTo l.blueprint l.lbn l.image
