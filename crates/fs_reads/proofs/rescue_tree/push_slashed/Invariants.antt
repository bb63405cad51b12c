-- The folders so far are appended, each behind a slash.
use Rattle.std.proofs.Common.{◌≡◌, ◌++◌, take}
use Rattle.std.specs.List.{flat_map}
use Rattle.std.specs.String.{string_bytes}
use Rattle.fs_reads.specs.Trees.{slashed}
use Rattle.fs_reads.proofs.rescue_tree.push_slashed.Given as goal

abbrev pub invariant-loop-name : goal.invariant-loop-name
invariant-loop-name l = string_bytes l.text ≡ string_bytes l.initial.text ++ flat_map slashed (take l.name-index l.names)
