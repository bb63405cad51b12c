use Rattle.std.proofs.Common.{◌≡◌, ◌++◌, List, ℕ, length}
use Rattle.ods_walk.specs.Steps.{AreEntered}
use Rattle.ods_walk.proofs.walking.flags_of.Given as goal

abbrev pub invariant-numbers : goal.invariant-numbers
invariant-numbers l = (done : List ℕ) × (l.numbers ≡ l.left ++ done) × AreEntered l.flags.items done

abbrev pub decreases-numbers : goal.decreases-numbers
decreases-numbers l = length l.left
