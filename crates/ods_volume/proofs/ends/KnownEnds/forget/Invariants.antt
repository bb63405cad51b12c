use Rattle.std.proofs.Common.{◌≡◌, ℕ, ◌<◌, ◌≤◌, length, None, get_or}
use Rattle.ods_volume.specs.Ends.{kept_by}
use Rattle.ods_volume.proofs.ends.KnownEnds.forget.Given as goal

-- each place that was passed has what is left, and each other one what it had
abbrev pub invariant-loop-place : goal.invariant-loop-place
invariant-loop-place l =
    ((i : ℕ) → i < l.place → get_or l.self.ends i None ≡ kept_by l.falls (get_or l.initial.self.ends i None))
    × ((i : ℕ) → l.place ≤ i → get_or l.self.ends i None ≡ get_or l.initial.self.ends i None)
    × (length l.self.ends ≡ length l.initial.self.ends)
