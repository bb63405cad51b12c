use Rattle.std.proofs.Common.{◌≡◌, ◌++◌, take}
use Rattle.std.specs.List.{flat_map}
use Rattle.std.specs.String.{string_bytes}
use Rattle.ods_header.specs.Text.{run_text}
use Rattle.ods_header.proofs.line.push_runs.Given as goal

abbrev pub invariant-loop-run : goal.invariant-loop-run
invariant-loop-run l = string_bytes l.line ≡ string_bytes l.initial.line ++ flat_map run_text (take l.run-index l.runs)
