use Rattle.std.proofs.Common.{◌≡◌, ◌++◌, List, ℕ, length}
use Rattle.ods_paths.specs.Patterns.{capitals}
use Rattle.ods_paths.specs.Rows.{IsRow}
use Rattle.ods_paths.proofs.matching.matches.Given as goal

abbrev pub invariant-loop-character : goal.invariant-loop-character
invariant-loop-character l = (done : List ℕ) × (l.pattern ≡ l.left ++ done) × IsRow l.text l.row (capitals done)

abbrev pub decreases-loop-character : goal.decreases-loop-character
decreases-loop-character l = length l.left
