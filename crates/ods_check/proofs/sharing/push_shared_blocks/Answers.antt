use Rattle.std.proofs.Common.{◌≡◌, ◌⊎◌, ℕ, ◌+◌, ◌*◌, ◌≤◌, true, Some, length, slice_get, inl, inr, sym, ap, ◌∙◌, subst, arith}
use Rattle.std.specs.List.{Contains}
use Rattle.ods_mount.specs.Tables.{has}
use Rattle.ods_check.specs.Sets.{IsSetOf}
use Rattle.ods_check.specs.Holders.{noted, AreNoted}
use Rattle.ods_check.proofs.Holding.{noted_next, still_full, stamped_more, stamps_back, items_back}
use Rattle.std.proofs.lemmas.Bool.{cases_lt}
use Rattle.ods_check.specs.Faults.{TellsPair}
use Rattle.ods_check.specs.Findings.{HasBlock}
use Rattle.ods_check.specs.Lines.{IsLineOf}
use Rattle.ods_check.proofs.Adding.{adds_more}
use Rattle.ods_check.proofs.Noting.{files_more}
use Rattle.ods_check.proofs.Pairs.{blocks_more, told_pair_still}
use Rattle.ods_check.specs.Turns.{turn_of, pair_turn}
use Rattle.ods_check.proofs.Turning.{turn_within, turn_more}
use Rattle.ods_check.proofs.sharing.push_shared_blocks.Goals as goal

pub returns-clause-adds : goal.returns-clause-adds
returns-clause-adds c =
    adds_more (IsLineOf c.args.disk.now.image.now c.args.disk.now.layout.now) c.args.faults.now c.push_pairs.new.faults c.push_own.new.faults c.in_ok-push_pairs.ensures.adds c.in_ok-push_own.ensures.adds

pub returns-clause-told : goal.returns-clause-told
returns-clause-told c m low =
    let I = c.args.disk.now.image.now in
    let L = c.args.disk.now.layout.now in
    let n = c.args.number in
    let mid = c.push_pairs.new.faults in
    let new = c.push_own.new.faults in
    elim (cases_lt m n) [
      | inl less ↦ elim (c.in_ok-push_pairs.ensures.told m less) [
        | inl told ↦ inl (told_pair_still I L (IsLineOf I L) mid new c.in_ok-push_own.ensures.adds m n told)
        | inr there ↦ inr there
      ]
      | inr more ↦
          let e : n ≡ m = omega arith in
          let P : ℕ → Type 0 = λ k. TellsPair I L new.0 k n in
          inl (subst P e c.in_ok-push_own.ensures.told)
    ]

pub returns-clause-before : goal.returns-clause-before
returns-clause-before c =
    let I = c.args.disk.now.image.now in
    let L = c.args.disk.now.layout.now in
    let n = c.args.number in
    let set = c.insert_new-is_new.new.set in
    let own_stamps = c.push_own.ensures.stamps in
    let stamp_count = sym c.deref_mut.ensures.len ∙ ap length c.deref_mut.ensures.value ∙ c.push_pairs.ensures.stamps.size ∙ sym own_stamps.size in
    let few = c.ranges.number.fits in
    let with = subst (λ old. IsSetOf (λ b. (has old b ≡ true) ⊎ ((j : ℕ) × (slice_get c.args.lbns.now j ≡ Some b))) set) c.push_pairs.ensures.held c.insert_new-is_new.ensures.with in
    let lists = c.note_unless_full.new.lists in
    let was : c.deref_mut-2.result.now ≡ c.args.before.now.holders.items = c.deref_mut-2.ensures.value ∙ ap (λ v. v.items) c.push_pairs.ensures.holders in
    let list_count = sym c.deref_mut-2.ensures.len ∙ sym c.note_unless_full.ensures.size in
    let is = items_back lists _ _ list_count in
    let both = adds_more (IsLineOf I L) c.args.faults.now c.push_pairs.new.faults c.push_own.new.faults c.in_ok-push_pairs.ensures.adds c.in_ok-push_own.ensures.adds in
    record {
      held = files_more (HasBlock I L) n c.args.before.now.held set c.requires.before.held (blocks_more I L n c.args.lbns.now c.args.before.now.held set c.requires.whole with);
      room = subst (λ l. length I ≤ 64 * l) (sym (c.insert_new-is_new.ensures.room ∙ ap length c.push_pairs.ensures.held)) c.requires.before.room;
      noted = λ some. subst (AreNoted I L (n + 1)) (sym is)
          (noted_next I L n c.args.lbns.now c.args.before.now.holders.items lists c.requires.whole (c.requires.before.noted (λ full. some (still_full (IsLineOf I L) c.args.faults.now c.push_own.new.faults both full)))
          (c.in_ok-note_unless_full.ensures.noted some) (λ b m there. c.in_ok-note_unless_full.ensures.kept b m (subst (λ ls. Contains (noted ls b) m) (sym was) there)));
      lists = ap length is ∙ c.note_unless_full.ensures.size ∙ ap length was ∙ c.requires.before.lists;
      stamps = stamped_more I _ _ _ (stamps_back I c.push_own.new.stamps _ _ _ own_stamps stamp_count) (omega arith);
    }

pub returns-clause-once : goal.returns-clause-once
returns-clause-once c =
    let n = c.args.number in
    let few = c.ranges.number.fits in
    let mid = c.push_pairs.new.faults in
    let new = c.push_own.new.faults in
    turn_more turn_of (pair_turn 0 n) (pair_turn n n) (pair_turn 0 (n + 1)) c.args.faults.now mid new (omega arith) (omega arith) c.in_ok-push_pairs.ensures.once
    (turn_within turn_of (pair_turn n n) (pair_turn n n + 1) (pair_turn n n) (pair_turn 0 (n + 1)) mid new (omega arith) (omega arith) c.in_ok-push_own.ensures.once)
