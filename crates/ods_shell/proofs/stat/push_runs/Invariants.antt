-- The runs that end before this block are appended.
use Rattle.std.proofs.Common.{◌≡◌, ◌≤◌, ◌++◌}
use Rattle.std.specs.List.{flat_map, range_with_len}
use Rattle.std.specs.String.{string_bytes}
use Rattle.ods_shell.specs.Stat.{run_start, run_text}
use Rattle.ods_shell.proofs.stat.push_runs.Given as goal

abbrev pub invariant-loop-at : goal.invariant-loop-at
invariant-loop-at l =
    (l.from ≡ run_start l.fn.lbns l.at) × (l.from ≤ l.at)
    × (string_bytes l.text ≡ string_bytes l.initial.text ++ flat_map (run_text l.fn.lbns) (range_with_len 0 l.at))
