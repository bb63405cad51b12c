use Rattle.std.proofs.Common.{◌≡◌, length}
use Rattle.std.specs.Prelude.{reverse}
use Rattle.ods_untar.specs.Below.{from_end}
use Rattle.ods_untar.proofs.below.bare.Given as goal

abbrev pub invariant-loop-front : goal.invariant-loop-front
invariant-loop-front l = from_end (reverse l.path) ≡ from_end (reverse l.rest)

abbrev pub decreases-loop-front : goal.decreases-loop-front
decreases-loop-front l = length l.rest
