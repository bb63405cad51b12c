use Rattle.std.proofs.Common.{◌≡◌, ◌+◌, drop}
use Rattle.ods_plain.specs.Rows.{place_of}
use Rattle.ods_plain.proofs.rows.place.Given as goal

-- the file is none of those so far
abbrev pub invariant-loop-i : goal.invariant-loop-i
invariant-loop-i l = place_of l.id l.rows ≡ l.i + place_of l.id (drop l.i l.rows)
