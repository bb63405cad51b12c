use Rattle.std.proofs.Common.{◌≡◌, refl, arith, slice_get, slice_index, Some, ℕ, ◌+◌, ◌<◌, length}
use Rattle.std.proofs.lemmas.Option.{slice_get-get_or}
use Rattle.std.specs.List.{Contains}
use Rattle.ods_space.specs.Chain.{index_for}
use Rattle.ods_space.proofs.Sizes.{chain_size}
use Rattle.ods_mount.proofs.Each.{each_next, each_of, holds_at, held_at}
use Rattle.ods_check.specs.declared.fault_line.FaultLine.TheVariants.{Index}
use Rattle.ods_check.specs.declared.fault_line.IndexFault.TheVariants.{HeldPlace}
use Rattle.ods_check.specs.Lines.{IsLineOf}
use Rattle.ods_check.proofs.Adding.{adds_none, adds_if, adds_more, told_still}
use Rattle.ods_check.proofs.HeldPlaces.{IsLoose, loose_true, true_loose, loose_held, held_loose}
use Rattle.ods_check.proofs.Stamping.{stamped_none, stamped_step, stamped_turn, put_holds, put_there}
use Rattle.ods_check.specs.Turns.{turn_of, file_turn}
use Rattle.ods_check.specs.declared.fault_line.FaultLine.{FaultLine}
use Rattle.ods_check.proofs.FileFaults.{same_held}
use Rattle.ods_check.proofs.chains.push_places.Goals as goal

pub loop-i-init : goal.loop-i-init
loop-i-init c = record {
  adds = adds_none (IsLineOf c.args.disk.now.image.now c.args.disk.now.layout.now) c.args.faults.now;
  told = λ j b low. absurd (omega arith);
  stamped = stamped_none (λ b. Index (HeldPlace b c.args.number)) _ (length c.args.disk.now.image.now) c.args.faults.now c.args.stamps.now (λ b. (let low = c.requires.stamps.low b in omega arith)) c.requires.stamps.size;
}

pub loop-i-preserved : goal.loop-i-preserved
loop-i-preserved c =
    let I = c.args.disk.now.image.now in
    let L = c.args.disk.now.layout.now in
    let n = c.args.number in
    let i = c.loop-i.i in
    let P = IsLineOf I L in
    let old = c.loop-i.faults in
    let new = c.push_if.new.list in
    let lbn = slice_index c.args.lbns.now i in
    let at : slice_get c.args.lbns.now i ≡ Some lbn = slice_get-get_or c.args.lbns.now i 0 c.loop-i-test.true in
    let held = holds_at I L n c.args.lbns.now i lbn c.requires.whole at in
    let loose = c.is_loose_place-loose.result in
    let line : ℕ → FaultLine = λ b. Index (HeldPlace b n) in
    let size = length I in
    let olds = c.loop-i.stamps in
    let news = c.put_stamp-is_first.new.stamps in
    let put = c.put_stamp-is_first.result in
    let puts = c.put_stamp-is_first.ensures in
    let inside = c.requires.whole.whole.inside i 0 c.loop-i-test.true in
    let len = c.loop-i.invariant.stamped.len in
    let within : lbn < length olds = omega arith in
    let stamped = stamped_step line _ size (same_held n) c.args.faults.now old new lbn olds news within c.loop-i.invariant.stamped loose put puts c.in_ok-push_if.ensures in
    let added = adds_if P old new (line lbn) put c.in_ok-push_if.ensures
    (λ e. loose_held I L c.args.home_lbn n i lbn c.requires.home held (loose_true c.args.home_lbn n i lbn loose c.is_loose_place-loose.ensures (put_holds lbn loose _ olds news put puts e))) in
    record {
      adds = adds_more P c.args.faults.now old new c.loop-i.invariant.adds added;
      told = each_next (λ j b. IsLoose c.args.home_lbn n j b → Contains new.0 (Index (HeldPlace b n))) c.args.lbns.now i lbn at
          (λ j b low here e. told_still P old new (Index (HeldPlace b n)) added (c.loop-i.invariant.told j b low here e))
          (λ e. stamped.told lbn (put_there lbn loose _ olds news put within puts (true_loose c.args.home_lbn n i lbn loose c.is_loose_place-loose.ensures e)));
      stamped = stamped;
    }

pub put_stamp-is_first-requires : goal.put_stamp-is_first-requires
put_stamp-is_first-requires c =
    let inside = c.requires.whole.whole.inside c.loop-i.i 0 c.loop-i-test.true in
    let len = c.loop-i.invariant.stamped.len in
    omega arith

pub overflow_cast-i : goal.overflow_cast-i
overflow_cast-i c =
    let has = c.requires.whole in
    let small = chain_size c.args.disk.now.image.now c.args.disk.now.layout.now.home (index_for c.args.disk.now.layout.now c.args.number) c.args.number has.others c.args.lbns.now c.len.ensures.image has.whole.chain in
    let low = c.loop-i-test.true in
    omega arith

pub returns-clause-adds : goal.returns-clause-adds
returns-clause-adds c = c.loop-i.invariant.adds

pub returns-clause-places : goal.returns-clause-places
returns-clause-places c k t =
    let I = c.args.disk.now.image.now in
    let L = c.args.disk.now.layout.now in
    let n = c.args.number in
    let at = held_at I L n c.args.lbns.now t.1 k c.requires.whole t.2 in
    each_of (λ j x. IsLoose c.args.home_lbn n j x → Contains c.loop-i.faults.0 (Index (HeldPlace x n))) c.args.lbns.now c.loop-i.i (let end = c.loop-i-test.false in omega arith) c.loop-i.invariant.told at.0 k at.2
    (held_loose I L c.args.home_lbn n at.0 k t.1 c.requires.home at.1 t refl)

pub returns-clause-once : goal.returns-clause-once
returns-clause-once c =
    let n = c.args.number in
    stamped_turn (λ b. Index (HeldPlace b n)) _ (length c.args.disk.now.image.now) turn_of (file_turn n + 3) (file_turn n + 4) c.args.faults.now c.loop-i.faults c.loop-i.stamps (λ b. refl) (omega arith) c.loop-i.invariant.stamped

pub returns-clause-stamps : goal.returns-clause-stamps
returns-clause-stamps c = record { size = c.loop-i.invariant.stamped.len; low = λ b. (let low = c.loop-i.invariant.stamped.low b in omega arith) }
