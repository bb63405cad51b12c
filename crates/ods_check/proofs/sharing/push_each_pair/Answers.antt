use Rattle.std.proofs.Common.{ℕ, ◌+◌, ◌*◌, List, sym, ap, ◌∙◌, subst, arith, ◌≤◌}
use Rattle.ods_mount.specs.Tables.{has}
use Rattle.ods_check.specs.Faults.{TellsPair}
use Rattle.ods_check.specs.Holders.{IsStamped}
use Rattle.ods_check.specs.declared.fault_line.FaultLine.{FaultLine}
use Rattle.ods_check.specs.Lines.{IsLineOf}
use Rattle.ods_check.proofs.Adding.{adds_none}
use Rattle.ods_check.proofs.Holding.{stamped_more}
use Rattle.ods_check.proofs.Pairs.{told_pair_still, pair_apart}
use Rattle.ods_check.proofs.Sweeping.{Sweeps, sweeps_none, sweeps_more}
use Rattle.ods_check.specs.Lists.{AddsInTurn}
use Rattle.ods_check.specs.Turns.{turn_of, pair_turn}
use Rattle.ods_check.proofs.Turning.{turn_none, turn_within, turn_more}
use Rattle.ods_check.proofs.sharing.push_each_pair.Goals as goal
use Rattle.ods_check.proofs.sharing.push_each_pair.Goals.{then-contains+in_ok-push_pair, else-contains}

pub loop-one-init : goal.loop-one-init
loop-one-init c = record {
  sweeps = sweeps_none (IsLineOf c.args.disk.now.image.now c.args.disk.now.layout.now) (λ m found. TellsPair c.args.disk.now.image.now c.args.disk.now.layout.now found m c.args.number) c.args.faults.now;
  once = turn_none turn_of _ _ c.args.faults.now;
  stamps = stamped_more _ _ _ _ c.requires.stamps (omega arith);
}

pub loop-one-preserved : goal.loop-one-preserved
loop-one-preserved c =
    let I = c.args.disk.now.image.now in
    let L = c.args.disk.now.layout.now in
    let n = c.args.number in
    let P = IsLineOf I L in
    let mid = c.loop-one.faults in
    let Q : List FaultLine × ℕ → Type 0 = λ new. Sweeps P (λ m found. TellsPair I L found m n) c.args.faults.now new (c.loop-one.one + 1) in
    let R : List ℕ → Type 0 = λ stamps. IsStamped I stamps (65536 * n + (c.loop-one.one + 1)) in
    let start = pair_turn 0 n in
    let here = pair_turn c.loop-one.one n in
    let next = pair_turn (c.loop-one.one + 1) n in
    let T : List FaultLine × ℕ → Type 0 = λ new. AddsInTurn turn_of start next c.args.faults.now new in
    elim c.if-contains.branch [
      | then-contains+in_ok-push_pair w ↦
          let new = w.push_pair.new.faults in
          let adds = w.in_ok-push_pair.ensures.adds in
          record {
            sweeps = subst Q (sym w.faults-is) (sweeps_more P (λ m found. TellsPair I L found m n) c.args.faults.now mid new c.loop-one.one (λ m. told_pair_still I L P mid new adds m n) c.loop-one.invariant.sweeps adds w.in_ok-push_pair.ensures.told);
            once = subst T (sym w.faults-is) (turn_more turn_of start here next c.args.faults.now mid new (omega arith) (omega arith) c.loop-one.invariant.once
                (turn_within turn_of here (here + 1) here next mid new (omega arith) (omega arith) w.in_ok-push_pair.ensures.once));
            stamps = subst R (sym w.stamps-is) (stamped_more _ _ _ _ w.push_pair.ensures.stamps (omega arith));
          }
      | else-contains w ↦
          let adds = adds_none P mid in
          record {
            sweeps = subst Q (sym w.faults-is) (sweeps_more P (λ m found. TellsPair I L found m n) c.args.faults.now mid mid c.loop-one.one (λ m told. told) c.loop-one.invariant.sweeps adds
                (pair_apart I L mid.0 c.loop-one.one n c.args.near.now c.loop-one-test.true c.requires.near (ap (has c.args.near.now) (sym c.from.ensures) ∙ sym c.contains.ensures ∙ w.if-contains.false)));
            once = subst T (sym w.faults-is) (turn_within turn_of start here start next c.args.faults.now mid (omega arith) (omega arith) c.loop-one.invariant.once);
            stamps = subst R (sym w.stamps-is) (stamped_more _ _ _ _ c.loop-one.invariant.stamps (omega arith));
          }
    ]

pub returns-clause-told : goal.returns-clause-told
returns-clause-told c m low = let end = c.loop-one-test.false in c.loop-one.invariant.sweeps.told m (omega arith)

pub returns-clause-once : goal.returns-clause-once
returns-clause-once c =
    let n = c.args.number in
    let one = c.loop-one.one in
    let few : one ≤ n = omega arith in
    turn_within turn_of (pair_turn 0 n) (pair_turn one n) (pair_turn 0 n) (pair_turn n n) c.args.faults.now c.loop-one.faults (omega arith) (omega arith) c.loop-one.invariant.once
