use Rattle.std.proofs.Common.{◌≡◌, ◌*◌, ◌≤◌, sym, subst, arith}
use Rattle.std.specs.Prelude.{MatchBool}
use Rattle.ods_mount.specs.Tables.{IsWith}
use Rattle.ods_repair.specs.Settled.{IsCopyTo}
use Rattle.ods_repair.proofs.SetCopies.{one_copied_bit}
use Rattle.ods_repair.proofs.unsharing.roomy_copy.Goals as goal

pub loop-number-init : goal.loop-number-init
loop-number-init c = record {
  copied = record { same = λ b low. absurd (omega (arith, low)); none = λ b low. c.in_ok-copy.ensures.empty b };
  room = c.in_ok-copy.ensures.room;
}

pub insert_if-requires : goal.insert_if-requires
insert_if-requires c = let room = c.loop-number.invariant.room in let low = c.loop-number-test.true in omega (arith, room, low)

pub loop-number-preserved : goal.loop-number-preserved
loop-number-preserved c = record {
  copied = one_copied_bit c.args.set.now c.loop-number.copy c.insert_if.new.set c.loop-number.number c.loop-number.invariant.copied
      (subst (λ t. MatchBool t (IsWith c.insert_if.new.set c.loop-number.copy c.loop-number.number) (c.insert_if.new.set ≡ c.loop-number.copy)) c.contains.ensures c.insert_if.ensures.with);
  room = subst (λ k. c.args.end ≤ 64 * k) (sym c.insert_if.ensures.room) c.loop-number.invariant.room;
}

pub returns-clause-copied : goal.returns-clause-copied
returns-clause-copied c = subst (IsCopyTo c.args.set.now c.loop-number.copy) (let end = c.loop-number-test.false in let most = c.loop-number.auto.number-end in omega (arith, end, most)) c.loop-number.invariant.copied

pub returns-clause-room : goal.returns-clause-room
returns-clause-room c = c.loop-number.invariant.room
