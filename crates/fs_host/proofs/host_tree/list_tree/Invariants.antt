use Rattle.fs_host.proofs.ListedTrees.{IsOnTheWay}
use Rattle.fs_host.proofs.host_tree.list_tree.Given as goal

-- a tree is listed, but for the folders on the pile
abbrev pub invariant-folders : goal.invariant-folders
invariant-folders g l = IsOnTheWay l.listed.items l.pile.items
