use Rattle.std.proofs.Common.{ℕ, ◌<◌, ◌≤◌, ◌*◌}
use Rattle.ods_check.specs.Lists.{Adds, AddsInTurn}
use Rattle.ods_check.specs.Faults.{TellsFile}
use Rattle.ods_check.specs.Lines.{IsLineOf}
use Rattle.ods_check.specs.Turns.{turn_of, file_turn}
use Rattle.ods_check.specs.Holders.{IsStamped}
use Rattle.ods_check.proofs.chains.push_each_file.Given as goal

abbrev pub invariant-loop-number : goal.invariant-loop-number
invariant-loop-number l = record {
  adds : Adds (IsLineOf l.fn.disk.image.now l.fn.disk.layout.now) l.initial.faults l.faults;
  files : (n : ℕ) → n < l.number → TellsFile l.fn.disk.image.now l.fn.disk.layout.now l.faults.0 n;
  once : AddsInTurn turn_of (file_turn 0) (file_turn l.number) l.initial.faults l.faults;
  few : l.number ≤ 65536;
  stamps : IsStamped l.fn.disk.image.now l.stamps (2 * l.number);
}
