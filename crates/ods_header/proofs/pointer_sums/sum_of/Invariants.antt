use Rattle.std.proofs.Common.{◌≡◌, ◌+◌, ◌*◌, ◌≤◌, length, take}
use Rattle.std.specs.List.{flat_map}
use Rattle.ods_header.specs.Header.{run_blocks, runs_of}
use Rattle.ods_header.proofs.pointer_sums.sum_of.Given as goal

abbrev pub invariant-loop-pointer : goal.invariant-loop-pointer
invariant-loop-pointer l = (l.sum + 256 * l.pointer-index ≡ 256 * length (flat_map run_blocks (take l.pointer-index (runs_of l.header)))) × (l.sum ≤ 65280 * l.pointer-index)
