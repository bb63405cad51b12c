use Rattle.std.proofs.Common.{◌≡◌, map, take}
use Rattle.ods_walk.specs.declared.ordering.Titled.{Titled}
use Rattle.ods_walk.proofs.ordering.in_order.Given as goal

abbrev pub invariant-loop-entry : goal.invariant-loop-entry
invariant-loop-entry l = map (λ (t : Titled). t.entry) l.titled.items ≡ take l.entry-index l.entries

abbrev pub invariant-loop-line : goal.invariant-loop-line
invariant-loop-line l = l.lines.items ≡ map (λ (t : Titled). t.entry) (take l.line-index l.line-items)
