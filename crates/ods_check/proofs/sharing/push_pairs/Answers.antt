use Rattle.std.proofs.Common.{◌*◌, ◌≤◌, length, inl, inr, refl, sym, ap, ◌∙◌, subst, arith}
use Rattle.std.specs.List.{Contains}
use Rattle.std.proofs.lemmas.Bool.Decides.{when_false}
use Rattle.ods_mount.proofs.Each.{held_at}
use Rattle.ods_check.specs.Holders.{noted, IsStamped}
use Rattle.ods_check.proofs.Adding.{told_one}
use Rattle.ods_check.proofs.Holding.{stamped_more, stamps_back}
use Rattle.ods_check.proofs.Pairs.{blocks_set, none_before}
use Rattle.ods_check.proofs.Telling.{true_holds}
use Rattle.ods_check.proofs.Others.{shares_first}
use Rattle.ods_check.specs.Turns.{turn_of}
use Rattle.ods_check.proofs.Turning.{turn_none}
use Rattle.ods_check.proofs.sharing.push_pairs.Goals as goal

pub returns-in_default-clause-told : goal.returns-in_default-clause-told
returns-in_default-clause-told c m low =
    inl (none_before c.args.disk.now.image.now c.args.disk.now.layout.now c.args.faults.now.0 c.args.number c.args.lbns.now c.args.before.now.held c.requires.whole c.requires.before.held c.in_default.ensures.none m low)

pub returns-then-is_full-clause-told : goal.returns-then-is_full-clause-told
returns-then-is_full-clause-told c m low = inr (told_one _ _ c.args.number c.in_ok-push.ensures)

pub returns-then-is_full-clause-others : goal.returns-then-is_full-clause-others
returns-then-is_full-clause-others c = inr (record {
  is = c.in_ok-push.ensures;
  shares = shares_first c.args.disk.now.image.now c.args.disk.now.layout.now c.args.number _ c.args.lbns.now c.args.before.now.held c.requires.whole c.requires.before.held c.in-Some.ensures.some;
  full = true_holds c.is_full.result (c.args.faults.now.1 ≤ length c.args.faults.now.0) c.is_full.ensures c.if-is_full.true;
})

pub push_each_pair-requires-clause-own : goal.push_each_pair-requires-clause-own
push_each_pair-requires-clause-own c =
    blocks_set c.args.disk.now.image.now c.args.disk.now.layout.now c.args.number c.args.lbns.now c.in_ok-own.own c.insert_all.new.set c.requires.whole c.in_ok-own.ensures.empty c.insert_all.ensures.with

pub push_each_pair-requires-clause-near : goal.push_each_pair-requires-clause-near
push_each_pair-requires-clause-near c m b low one other =
    let I = c.args.disk.now.image.now in
    let L = c.args.disk.now.layout.now in
    let at = held_at I L c.args.number c.args.lbns.now other.0 b c.requires.whole other.1 in
    let there = c.requires.before.noted (when_false _ _ c.if-is_full.false c.is_full.ensures) m b low one in
    c.insert_holders.ensures at.0 b m at.2 (subst (λ lists. Contains (noted lists b) m) (sym c.deref.ensures.value) there)

pub push_each_pair-requires-clause-stamps : goal.push_each_pair-requires-clause-stamps
push_each_pair-requires-clause-stamps c = subst (λ stamps. IsStamped c.args.disk.now.image.now stamps (65536 * c.args.number)) (sym c.deref_mut.ensures.value) c.requires.before.stamps

pub returns-clause-told : goal.returns-clause-told
returns-clause-told c m low = inl (c.in_ok-push_each_pair.ensures.told m low)

pub returns-clause-others : goal.returns-clause-others
returns-clause-others c = inl refl

pub returns-in_err-push_each_pair-clause-stamps : goal.returns-in_err-push_each_pair-clause-stamps
returns-in_err-push_each_pair-clause-stamps c =
    let new = c.push_each_pair.ensures.stamps in
    stamps_back c.args.disk.now.image.now c.push_each_pair.new.stamps _ _ _ new (sym (new.size ∙ sym c.requires.before.stamps.size ∙ ap length (sym c.deref_mut.ensures.value) ∙ c.deref_mut.ensures.len))

pub returns-clause-stamps : goal.returns-clause-stamps
returns-clause-stamps c =
    let new = c.push_each_pair.ensures.stamps in
    stamps_back c.args.disk.now.image.now c.push_each_pair.new.stamps _ _ _ new (sym (new.size ∙ sym c.requires.before.stamps.size ∙ ap length (sym c.deref_mut.ensures.value) ∙ c.deref_mut.ensures.len))

pub returns-in_default-clause-stamps : goal.returns-in_default-clause-stamps
returns-in_default-clause-stamps c = stamped_more _ _ _ _ c.requires.before.stamps (omega arith)

pub returns-then-is_full-clause-stamps : goal.returns-then-is_full-clause-stamps
returns-then-is_full-clause-stamps c = stamped_more _ _ _ _ c.requires.before.stamps (omega arith)

pub returns-in_default-clause-once : goal.returns-in_default-clause-once
returns-in_default-clause-once c = turn_none turn_of _ _ c.args.faults.now

pub returns-then-is_full-clause-once : goal.returns-then-is_full-clause-once
returns-then-is_full-clause-once c = turn_none turn_of _ _ c.args.faults.now
