use Rattle.std.proofs.Common.{◌≡◌, ◌+◌, sym, ◌∙◌, arith, slice_get, slice_index, Some, ℕ, ◌<◌, length, refl}
use Rattle.std.proofs.lemmas.Option.{slice_get-get_or}
use Rattle.std.specs.List.{Contains}
use Rattle.std.specs.Prelude.{IsTrue}
use Rattle.ods_space.specs.Free.{is_free_block}
use Rattle.ods_mount.specs.declared.fault.MountFault.TheVariants.{MarkedFree}
use Rattle.ods_mount.proofs.Each.{each_next, each_of, holds_at, held_at}
use Rattle.ods_check.specs.declared.fault_line.FaultLine.TheVariants.{Plain}
use Rattle.ods_check.specs.Lines.{IsLineOf}
use Rattle.ods_check.proofs.Adding.{adds_none, adds_if, adds_more, told_still}
use Rattle.ods_check.proofs.Stamping.{stamped_none, stamped_step, stamped_turn, put_holds, put_there}
use Rattle.ods_check.specs.Turns.{turn_of, file_turn}
use Rattle.ods_check.specs.declared.fault_line.FaultLine.{FaultLine}
use Rattle.ods_check.proofs.FileFaults.{same_marked}
use Rattle.ods_check.proofs.chains.push_free.Goals as goal

pub loop-i-init : goal.loop-i-init
loop-i-init c = record {
  adds = adds_none (IsLineOf c.args.disk.now.image.now c.args.disk.now.layout.now) c.args.faults.now;
  told = λ j b low. absurd (omega arith);
  stamped = stamped_none (λ b. Plain (MarkedFree c.args.number b)) _ (length c.args.disk.now.image.now) c.args.faults.now c.args.stamps.now (λ b. (let low = c.requires.stamps.low b in omega arith)) c.requires.stamps.size;
}

pub loop-i-preserved : goal.loop-i-preserved
loop-i-preserved c =
    let I = c.args.disk.now.image.now in
    let L = c.args.disk.now.layout.now in
    let n = c.args.number in
    let P = IsLineOf I L in
    let old = c.loop-i.faults in
    let new = c.push_if.new.list in
    let lbn = slice_index c.args.lbns.now c.loop-i.i in
    let at : slice_get c.args.lbns.now c.loop-i.i ≡ Some lbn = slice_get-get_or c.args.lbns.now c.loop-i.i 0 c.loop-i-test.true in
    let held = holds_at I L n c.args.lbns.now c.loop-i.i lbn c.requires.whole at in
    let free = c.is_free-free.result in
    let is : free ≡ is_free_block I L lbn = c.is_free-free.ensures in
    let line : ℕ → FaultLine = λ b. Plain (MarkedFree n b) in
    let size = length I in
    let olds = c.loop-i.stamps in
    let news = c.put_stamp-is_first.new.stamps in
    let put = c.put_stamp-is_first.result in
    let puts = c.put_stamp-is_first.ensures in
    let inside = c.requires.whole.whole.inside c.loop-i.i 0 c.loop-i-test.true in
    let len = c.loop-i.invariant.stamped.len in
    let within : lbn < length olds = omega arith in
    let stamped = stamped_step line _ size (same_marked n) c.args.faults.now old new lbn olds news within c.loop-i.invariant.stamped free put puts c.in_ok-push_if.ensures in
    let added = adds_if P old new (line lbn) put c.in_ok-push_if.ensures (λ e. (c.loop-i.i + 1, held, sym is ∙ put_holds lbn free _ olds news put puts e)) in
    record {
      adds = adds_more P c.args.faults.now old new c.loop-i.invariant.adds added;
      told = each_next (λ j b. IsTrue (is_free_block I L b) → Contains new.0 (Plain (MarkedFree n b))) c.args.lbns.now c.loop-i.i lbn at
          (λ j b low here e. told_still P old new (Plain (MarkedFree n b)) added (c.loop-i.invariant.told j b low here e))
          (λ e. stamped.told lbn (put_there lbn free _ olds news put within puts (is ∙ e)));
      stamped = stamped;
    }

pub put_stamp-is_first-requires : goal.put_stamp-is_first-requires
put_stamp-is_first-requires c =
    let inside = c.requires.whole.whole.inside c.loop-i.i 0 c.loop-i-test.true in
    let len = c.loop-i.invariant.stamped.len in
    omega arith

pub returns-clause-adds : goal.returns-clause-adds
returns-clause-adds c = c.loop-i.invariant.adds

pub returns-clause-free : goal.returns-clause-free
returns-clause-free c b t =
    let at = held_at c.args.disk.now.image.now c.args.disk.now.layout.now c.args.number c.args.lbns.now t.0 b c.requires.whole t.1 in
    each_of (λ j x. IsTrue (is_free_block c.args.disk.now.image.now c.args.disk.now.layout.now x) → Contains c.loop-i.faults.0 (Plain (MarkedFree c.args.number x))) c.args.lbns.now c.loop-i.i (let end = c.loop-i-test.false in omega arith) c.loop-i.invariant.told at.0 b at.2 t.2

pub returns-clause-once : goal.returns-clause-once
returns-clause-once c =
    let n = c.args.number in
    stamped_turn (λ b. Plain (MarkedFree n b)) _ (length c.args.disk.now.image.now) turn_of (file_turn n + 2) (file_turn n + 3) c.args.faults.now c.loop-i.faults c.loop-i.stamps (λ b. refl) (omega arith) c.loop-i.invariant.stamped

pub returns-clause-stamps : goal.returns-clause-stamps
returns-clause-stamps c = record { size = c.loop-i.invariant.stamped.len; low = λ b. (let low = c.loop-i.invariant.stamped.low b in omega arith) }
