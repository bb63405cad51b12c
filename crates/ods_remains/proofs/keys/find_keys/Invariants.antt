use Rattle.ods_remains.specs.Keys.{AreKeysBelow}
use Rattle.ods_remains.proofs.keys.find_keys.Given as goal

abbrev pub invariant-loop-lbn : goal.invariant-loop-lbn
invariant-loop-lbn l = AreKeysBelow l.image l.lbn l.keys.items
