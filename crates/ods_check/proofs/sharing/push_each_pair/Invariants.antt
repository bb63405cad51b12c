use Rattle.std.proofs.Common.{◌+◌, ◌*◌}
use Rattle.ods_check.specs.Faults.{TellsPair}
use Rattle.ods_check.specs.Holders.{IsStamped}
use Rattle.ods_check.specs.Lines.{IsLineOf}
use Rattle.ods_check.proofs.Sweeping.{Sweeps}
use Rattle.ods_check.specs.Lists.{AddsInTurn}
use Rattle.ods_check.specs.Turns.{turn_of, pair_turn}
use Rattle.ods_check.proofs.sharing.push_each_pair.Given as goal

abbrev pub invariant-loop-one : goal.invariant-loop-one
invariant-loop-one l = record {
  sweeps : Sweeps (IsLineOf l.fn.disk.image.now l.fn.disk.layout.now) (λ m found. TellsPair l.fn.disk.image.now l.fn.disk.layout.now found m l.number) l.initial.faults l.faults l.one;
  once : AddsInTurn turn_of (pair_turn 0 l.number) (pair_turn l.one l.number) l.initial.faults l.faults;
  stamps : IsStamped l.fn.disk.image.now l.stamps (65536 * l.number + l.one);
}
