use Rattle.std.proofs.Common.{◌≡◌, ◌<◌, ◌≤◌, ℕ, [], false}
use Rattle.std.specs.Prelude.{slice_index_or}
use Rattle.std.specs.List.{All}
use Rattle.ods_directory.specs.Tags.{wants}
use Rattle.ods_directory.proofs.scan.next_wanted.Given as goal

abbrev pub invariant-loop-i : goal.invariant-loop-i
invariant-loop-i l = (x : ℕ) → l.from ≤ x → x < l.i → All (λ tag. wants l.wanted tag ≡ false) (slice_index_or l.tags x [])
