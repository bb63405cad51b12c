-- The headings of the directories so far.
use Rattle.std.proofs.Common.{◌≡◌, ◌≤◌, ◌-◌}
use Rattle.std.specs.Prelude.{max}
use Rattle.std.specs.List.{range_with_len}
use Rattle.std.specs.String.{string_bytes}
use Rattle.ods_shell.specs.Lines.{with_headings}
use Rattle.ods_shell.proofs.ls.push_headings.Given as goal

abbrev pub invariant-loop-place : goal.invariant-loop-place
invariant-loop-place l =
    (string_bytes l.text ≡ with_headings l.directories (string_bytes l.initial.text) (range_with_len l.from (l.place - l.from))) × (l.from ≤ l.place) × (l.place ≤ max l.from l.to)
