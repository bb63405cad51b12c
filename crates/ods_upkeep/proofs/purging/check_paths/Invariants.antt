-- The paths before those that are left are of names without versions.
use Rattle.std.proofs.Common.{List, drop}
use Rattle.std.specs.Borrow.{Bor}
use Rattle.std.specs.List.{All}
use Rattle.ods_upkeep.specs.Purged.{HasNoVersion, IsFirstNotOfNames}
use Rattle.ods_upkeep.specs.declared.failure.Failure.{Failure}
use Rattle.ods_upkeep.proofs.purging.check_paths.Given as goal

abbrev pub invariant-loop-path : goal.invariant-loop-path
invariant-loop-path l = record {
  all : All (λ path. HasNoVersion path.now) (drop l.path-index l.paths) → All (λ path. HasNoVersion path.now) l.paths;
  first : (failure : Failure) → IsFirstNotOfNames (drop l.path-index l.paths) failure → IsFirstNotOfNames l.paths failure;
}
