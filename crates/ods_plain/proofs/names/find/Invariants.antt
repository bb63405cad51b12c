use Rattle.std.proofs.Common.{◌≡◌, drop}
use Rattle.std.specs.Ordering.{nat_cmp}
use Rattle.std.specs.Cmp.Lexicographic.{slice_cmp}
use Rattle.std.specs.FinMap as finite
use Rattle.ods_plain.specs.Lines.{entries_of}
use Rattle.ods_plain.proofs.names.find.Given as goal

-- what is found in the lines that are left is what is found in all
abbrev pub invariant-loop-line : goal.invariant-loop-line
invariant-loop-line l = finite.find (slice_cmp nat_cmp) l.wanted (entries_of (drop l.line-index l.lines)) ≡ finite.find (slice_cmp nat_cmp) l.wanted (entries_of l.lines)
