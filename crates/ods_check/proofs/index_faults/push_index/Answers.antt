use Rattle.std.proofs.Common.{◌≢◌, ◌+◌, ◌<◌, ℕ, Some, length, slice_get, refl, subst, arith}
use Rattle.std.specs.List.{Contains}
use Rattle.ods_mount.proofs.Layouts.{same_place}
use Rattle.ods_check.specs.declared.fault_line.FaultLine.{FaultLine}
use Rattle.ods_check.specs.declared.fault_line.FaultLine.TheVariants.{Index}
use Rattle.ods_check.specs.declared.fault_line.IndexFault.TheVariants.{TooShort, Misplaced, OtherHome}
use Rattle.ods_check.specs.Lines.{IsIndexFault, IsLineOf}
use Rattle.ods_check.specs.Lists.{Adds}
use Rattle.ods_check.specs.Turns.{turn_of, volume_turn}
use Rattle.ods_check.proofs.Adding.{adds_if, adds_more, told_if, told_still}
use Rattle.ods_check.proofs.Sweeping.{each_adds, each_told, each_turn}
use Rattle.ods_check.proofs.Telling.{true_holds, holds_true}
use Rattle.ods_check.proofs.Turning.{turn_if, turn_more}
use Rattle.ods_check.proofs.index_faults.push_index.Goals as goal
use Rattle.ods_check.proofs.index_faults.push_index.Goals.{In_ok-push_each}

abbrev IsLine : In_ok-push_each → FaultLine → Type 0
IsLine c = IsLineOf c.args.disk.now.image.now c.args.disk.now.layout.now

-- what each step adds
short_adds : (c : In_ok-push_each) → Adds (IsLine c) c.args.faults.now c.push_if.new.list
short_adds c = adds_if (IsLine c) c.args.faults.now c.push_if.new.list (Index TooShort) c.is_index_short.result c.in_ok-push_if.ensures (true_holds c.is_index_short.result _ c.is_index_short.ensures)

home_adds : (c : In_ok-push_each) → Adds (IsLine c) c.push_misplaced.new.faults c.push_if-2.new.list
home_adds c =
    adds_if (IsLine c) c.push_misplaced.new.faults c.push_if-2.new.list (Index (OtherHome c.args.home_lbn)) c.is_other_home.result c.in_ok-push_if-2.ensures
    (λ e. let h = true_holds c.is_other_home.result _ c.is_other_home.ensures e in (c.requires.home, h.0, h.1))

free_adds : (c : In_ok-push_each) → Adds (IsLine c) c.push_if-2.new.list c.push_each.new.told
free_adds c = each_adds _ _ _ _ c.in_ok-push_each.ensures.each (IsLine c) (λ k t. ((c.args.home_lbn, c.requires.home, t.1, t.0), t.2))

pub returns-clause-adds : goal.returns-clause-adds
returns-clause-adds c =
    let all = (goal.at.returns-clause-adds c).In_ok-push_each in
    let P = IsLine all in
    let start = c.args.faults.now in
    let two = c.push_misplaced.new.faults in
    adds_more P start c.push_if-2.new.list c.push_each.new.told
    (adds_more P start two c.push_if-2.new.list (adds_more P start c.push_if.new.list two (short_adds all) c.in_ok-push_misplaced.ensures.adds) (home_adds all)) (free_adds all)

pub returns-clause-index : goal.returns-clause-index
returns-clause-index c =
    let all = (goal.at.returns-clause-index c).In_ok-push_each in
    let I = c.args.disk.now.image.now in
    let L = c.args.disk.now.layout.now in
    let home = c.args.home_lbn in
    let P = IsLine all in
    let one = c.push_if.new.list in
    let two = c.push_misplaced.new.faults in
    let three = c.push_if-2.new.list in
    let end = c.push_each.new.told in
    let last = free_adds all in
    let from_two = adds_more P two three end (home_adds all) last in
    let from_one = adds_more P one two end c.in_ok-push_misplaced.ensures.adds from_two in
    let Q : ℕ → Type 0 = λ k. IsIndexFault I L (OtherHome k) → Contains end.0 (Index (OtherHome k)) in
    let here : Q home = λ h. told_still P three end (Index (OtherHome home)) last (told_if two three (Index (OtherHome home)) c.is_other_home.result c.in_ok-push_if-2.ensures (holds_true c.is_other_home.result _ c.is_other_home.ensures (h.1, h.2))) in
    record {
      short = λ h. told_still P one end (Index TooShort) from_one (told_if c.args.faults.now one (Index TooShort) c.is_index_short.result c.in_ok-push_if.ensures (holds_true c.is_index_short.result _ c.is_index_short.ensures h));
      misplaced = λ i h. let w = c.in_ok-push_misplaced.ensures.some i h in (w.0, told_still P two end (Index (Misplaced w.0)) from_two w.1);
      first = λ v h. told_still P two end (Index (Misplaced v)) from_two (c.in_ok-push_misplaced.ensures.first v h);
      home = λ lbn h. subst Q (same_place I home lbn c.requires.home h.0) here h;
      free = λ k h.
          let place = h.0 in
          let low = place.3 in
          let same = same_place I place.0 home place.1 c.requires.home in
          each_told _ _ _ _ c.in_ok-push_each.ensures.each k (omega arith, place.2, h.1);
    }

pub returns-clause-once : goal.returns-clause-once
returns-clause-once c =
    let start = c.args.faults.now in
    let one = c.push_if.new.list in
    let two = c.push_misplaced.new.faults in
    let three = c.push_if-2.new.list in
    let end = c.push_each.new.told in
    let few = c.ranges.home_lbn.fits in
    turn_more turn_of 0 1 volume_turn start one end (omega arith) (omega arith) (turn_if turn_of 0 1 start one (Index TooShort) c.is_index_short.result c.in_ok-push_if.ensures (omega arith) (omega arith))
    (turn_more turn_of 1 2 volume_turn one two end (omega arith) (omega arith) c.in_ok-push_misplaced.ensures.once
    (turn_more turn_of 2 3 volume_turn two three end (omega arith) (omega arith)
    (turn_if turn_of 2 3 two three (Index (OtherHome c.args.home_lbn)) c.is_other_home.result c.in_ok-push_if-2.ensures (omega arith) (omega arith))
    (each_turn _ _ _ _ c.in_ok-push_each.ensures.each turn_of 3 volume_turn (λ k t. let low = t.0 in (refl, omega arith)))))
