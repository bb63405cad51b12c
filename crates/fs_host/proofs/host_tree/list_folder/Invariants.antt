use Rattle.fs_host.proofs.ListedTrees.{IsListedSoFar}
use Rattle.fs_host.proofs.host_tree.list_folder.Given as goal

-- what lies in the folder is listed, and its folders wait
abbrev pub invariant-loop-name : goal.invariant-loop-name
invariant-loop-name g l = IsListedSoFar l.folder l.initial.listed.items l.listed.items l.below.items
