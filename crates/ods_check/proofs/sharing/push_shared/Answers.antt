use Rattle.std.proofs.Common.{◌≡◌, ℕ, ◌≤◌, inl, inr, ap, subst, arith, ◌+◌}
use Rattle.std.proofs.lemmas.Bool.{cases_lt}
use Rattle.ods_check.specs.Lines.{IsLineOf}
use Rattle.ods_check.proofs.Adding.{adds_none, adds_more}
use Rattle.ods_check.proofs.Others.{TellsOr, has_none, others_more, tells_or_still}
use Rattle.ods_check.specs.Turns.{turn_of, pair_turn, last_turn}
use Rattle.ods_check.proofs.Turning.{turn_none, turn_within, turn_more}
use Rattle.ods_check.proofs.sharing.push_shared.Goals as goal

pub loop-number-init : goal.loop-number-init
loop-number-init c =
    let I = c.args.disk.now.image.now in
    let L = c.args.disk.now.layout.now in
    let first = c.in_ok-before.ensures in
    record {
      adds = adds_none (IsLineOf I L) c.args.faults.now;
      once = turn_none turn_of _ _ c.args.faults.now;
      few = omega arith;
      told = λ n low. absurd (omega arith);
      others = has_none I L c.args.faults.now c.args.others.now c.requires.none;
      before = record { held = first.held; room = first.room; noted = λ some. first.noted (λ never. never); lists = first.lists; stamps = first.stamps };
    }

pub loop-number-preserved : goal.loop-number-preserved
loop-number-preserved c =
    let I = c.args.disk.now.image.now in
    let L = c.args.disk.now.layout.now in
    let k = c.loop-number.number in
    let mid = c.loop-number.faults in
    let new = c.push_shared_of.new.faults in
    let xs = c.loop-number.others in
    let ys = c.push_shared_of.new.others in
    let e = c.in_ok-push_shared_of.ensures in
    record {
      adds = adds_more (IsLineOf I L) c.args.faults.now mid new c.loop-number.invariant.adds e.adds;
      once = turn_more turn_of (pair_turn 0 0) (pair_turn 0 k) (pair_turn 0 (k + 1)) c.args.faults.now mid new (omega arith) (omega arith) c.loop-number.invariant.once e.once;
      few = (let words = c.file_end-number-end.ensures.words in omega arith);
      told = λ n low m within. elim (cases_lt n k) [
        | inl less ↦ tells_or_still I L (IsLineOf I L) mid new k xs ys e.adds e.others m n (c.loop-number.invariant.told n less m within)
        | inr more ↦
            let is : k ≡ n = omega arith in
            let Q : ℕ → Type 0 = λ j. m ≤ j → TellsOr I L new ys m j in
            subst Q is (e.told m) within
      ];
      others = others_more I L (IsLineOf I L) mid new k xs ys e.adds e.others c.args.others.now c.loop-number.invariant.others;
      before = e.before;
    }

pub returns-clause-all : goal.returns-clause-all
returns-clause-all c m n low =
    let I = c.args.disk.now.image.now in
    let L = c.args.disk.now.layout.now in
    let end = c.loop-number-test.false in
    elim (cases_lt n c.loop-number.number) [
      | inl less ↦ c.loop-number.invariant.told n less m low
      | inr more ↦ inl (λ b share. absurd (let low = c.file_end-number-end.ensures.files n share.3.file.file in omega arith))
    ]

pub returns-clause-adds : goal.returns-clause-adds
returns-clause-adds c = c.loop-number.invariant.adds

pub returns-clause-others : goal.returns-clause-others
returns-clause-others c = c.loop-number.invariant.others.are

pub returns-clause-most : goal.returns-clause-most
returns-clause-most c = c.loop-number.invariant.others.most

pub returns-clause-once : goal.returns-clause-once
returns-clause-once c =
    let k = c.loop-number.number in
    let few = c.loop-number.invariant.few in
    turn_within turn_of (pair_turn 0 0) (pair_turn 0 k) (pair_turn 0 0) last_turn c.args.faults.now c.loop-number.faults (omega arith) (omega arith) c.loop-number.invariant.once
