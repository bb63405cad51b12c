use Rattle.std.proofs.Common.{◌≡◌, subst, arith, inl, inr, ◌+◌}
use Rattle.std.proofs.lemmas.Bool.{cases_lt}
use Rattle.ods_check.specs.Faults.{TellsFile}
use Rattle.ods_check.specs.Lines.{IsLineOf}
use Rattle.ods_check.proofs.Adding.{adds_none, adds_more}
use Rattle.ods_check.proofs.FileFaults.{told_file_still, no_file}
use Rattle.ods_check.specs.Turns.{turn_of, file_turn, pair_turn}
use Rattle.ods_check.proofs.Turning.{turn_none, turn_within, turn_more}
use Rattle.ods_check.proofs.Holding.{stamped_more}
use Rattle.ods_check.proofs.chains.push_each_file.Goals as goal

pub loop-number-init : goal.loop-number-init
loop-number-init c = record {
  adds = adds_none (IsLineOf c.args.disk.now.image.now c.args.disk.now.layout.now) c.args.faults.now;
  files = λ n low. absurd (omega arith);
  once = turn_none turn_of (file_turn 0) (file_turn 0) c.args.faults.now;
  few = omega arith;
  stamps = c.requires.stamps;
}

pub loop-number-preserved : goal.loop-number-preserved
loop-number-preserved c =
    let I = c.args.disk.now.image.now in
    let L = c.args.disk.now.layout.now in
    let old = c.loop-number.faults in
    let new = c.push_file.new.faults in
    let added = c.in_ok-push_file.ensures.adds in
    record {
      adds = adds_more (IsLineOf I L) c.args.faults.now old new c.loop-number.invariant.adds added;
      files = λ n low. elim (cases_lt n c.loop-number.number) [
        | inl less ↦ told_file_still I L n (IsLineOf I L) old new added (c.loop-number.invariant.files n less)
        | inr more ↦
            let e : c.loop-number.number ≡ n = omega arith in
            subst (TellsFile I L new.0) e c.in_ok-push_file.ensures.file
      ];
      once =
          let k = c.loop-number.number in
          turn_more turn_of (file_turn 0) (file_turn k) (file_turn (k + 1)) c.args.faults.now old new (omega arith) (omega arith) c.loop-number.invariant.once
          (turn_within turn_of (file_turn k) (file_turn k + 6) (file_turn k) (file_turn (k + 1)) old new (omega arith) (omega arith) c.in_ok-push_file.ensures.once);
      few = (let words = c.file_end-number-end.ensures.words in omega arith);
      stamps = stamped_more _ _ _ _ c.in_ok-push_file.ensures.stamps (omega arith);
    }

pub returns-clause-files : goal.returns-clause-files
returns-clause-files c n =
    let I = c.args.disk.now.image.now in
    let L = c.args.disk.now.layout.now in
    elim (cases_lt n c.loop-number.number) [
      | inl less ↦ c.loop-number.invariant.files n less
      | inr more ↦ no_file I L n c.loop-number.faults.0 (λ file.
          let low = c.file_end-number-end.ensures.files n file in
          let end = c.loop-number-test.false in
          omega arith)
    ]

pub returns-clause-once : goal.returns-clause-once
returns-clause-once c =
    let k = c.loop-number.number in
    let few = c.loop-number.invariant.few in
    turn_within turn_of (file_turn 0) (file_turn k) (file_turn 0) (pair_turn 0 0) c.args.faults.now c.loop-number.faults (omega arith) (omega arith) c.loop-number.invariant.once
