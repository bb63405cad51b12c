use Rattle.std.proofs.Common.{ℕ, ◌<◌, ◌≤◌}
use Rattle.ods_check.specs.Holders.{IsBefore}
use Rattle.ods_check.specs.Lists.{Adds, IsFull, AddsInTurn}
use Rattle.ods_check.specs.Lines.{IsLineOf}
use Rattle.ods_check.proofs.Others.{TellsOr, HasOthers}
use Rattle.ods_check.specs.Turns.{turn_of, pair_turn}
use Rattle.ods_check.proofs.sharing.push_shared.Given as goal

abbrev pub invariant-loop-number : goal.invariant-loop-number
invariant-loop-number l = record {
  adds : Adds (IsLineOf l.fn.disk.image.now l.fn.disk.layout.now) l.initial.faults l.faults;
  once : AddsInTurn turn_of (pair_turn 0 0) (pair_turn 0 l.number) l.initial.faults l.faults;
  few : l.number ≤ 65536;
  told : (n : ℕ) → n < l.number → (m : ℕ) → m ≤ n → TellsOr l.fn.disk.image.now l.fn.disk.layout.now l.faults l.others m n;
  others : HasOthers l.fn.disk.image.now l.fn.disk.layout.now l.faults l.initial.others l.others l.number;
  before : IsBefore l.fn.disk.image.now l.fn.disk.layout.now (IsFull l.faults) l.number l.before;
}
