use Rattle.std.proofs.Common.{ℕ, ◌<◌, ◌≤◌, slice_index_or}
use Rattle.ods_request.specs.declared.answers.Entry.{Entry}
use Rattle.ods_share.proofs.settlement.in_range.Given as goal

abbrev pub invariant-loop-at : goal.invariant-loop-at
invariant-loop-at l = (k : ℕ) (e : Entry) → k < l.at → (1 ≤ (slice_index_or l.entries.items k e).session) × ((slice_index_or l.entries.items k e).session ≤ l.sessions)
