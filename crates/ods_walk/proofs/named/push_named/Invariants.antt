use Rattle.std.proofs.Common.{◌≡◌, ◌++◌, filter, take}
use Rattle.ods_walk.specs.Listing.{has_name}
use Rattle.ods_walk.proofs.named.push_named.Given as goal

abbrev pub invariant-loop-entry : goal.invariant-loop-entry
invariant-loop-entry l = l.found.items ≡ l.initial.found.items ++ filter (has_name l.name) (take l.entry-index l.entries)
