use Rattle.std.proofs.Common.{◌≡◌, ◌++◌, length}
use Rattle.std.specs.Prelude.{reverse}
use Rattle.fs_host.proofs.host_tree.put_on_top.Given as goal

-- what is on the pile, and what comes on it, is the same
abbrev pub invariant-loop-folder : goal.invariant-loop-folder
invariant-loop-folder l = l.pile.items ++ reverse l.below.items ≡ l.initial.pile.items ++ reverse l.initial.below.items

abbrev pub decreases-loop-folder : goal.decreases-loop-folder
decreases-loop-folder l = length l.below.items
