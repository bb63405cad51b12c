use Rattle.ods_mount.specs.Checks.{NoPlaceIsFree}
use Rattle.ods_mount.proofs.places.check_free_places.Given as goal

abbrev pub invariant-loop-lbn : goal.invariant-loop-lbn
invariant-loop-lbn l = NoPlaceIsFree l.fn.disk.image.now l.fn.disk.layout.now l.lbn
