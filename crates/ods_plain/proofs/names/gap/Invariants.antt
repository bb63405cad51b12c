use Rattle.std.proofs.Common.{◌≡◌, ◌+◌, drop}
use Rattle.ods_plain.specs.Lines.{gap_for}
use Rattle.ods_plain.proofs.names.gap.Given as goal

-- the gap is not among the lines so far
abbrev pub invariant-loop-i : goal.invariant-loop-i
invariant-loop-i l = gap_for l.wanted l.lines ≡ l.i + gap_for l.wanted (drop l.i l.lines)
