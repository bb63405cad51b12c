use Rattle.std.proofs.Common.{◌≡◌, ◌++◌, length, map}
use Rattle.ods_walk.specs.Steps.{from_top, placed}
use Rattle.ods_walk.proofs.walking.put_lines.Given as goal

abbrev pub invariant-entries : goal.invariant-entries
invariant-entries l = map (placed l.place) l.entries.items ++ from_top l.pile.items ≡ map (placed l.place) l.initial.entries.items ++ from_top l.initial.pile.items

abbrev pub decreases-entries : goal.decreases-entries
decreases-entries l = length l.entries.items
