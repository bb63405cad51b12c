-- The runs that end before this block are there.
use Rattle.std.proofs.Common.{◌≡◌, ◌≤◌}
use Rattle.std.specs.Prelude.{map}
use Rattle.std.specs.List.{flat_map, range_with_len}
use Rattle.serde_json.specs.View.{view}
use Rattle.ods_shell.specs.Info.{run_item}
use Rattle.ods_shell.specs.Stat.{run_start}
use Rattle.ods_shell.proofs.info_runs.run_values.Given as goal

abbrev pub invariant-loop-at : goal.invariant-loop-at
invariant-loop-at l = (l.from ≡ run_start l.fn.lbns l.at) × (l.from ≤ l.at) × (map view l.runs.items ≡ flat_map (run_item l.fn.lbns) (range_with_len 0 l.at))
