use Rattle.std.proofs.Common.{◌+◌, arith}
use Rattle.ods_mount.specs.declared.fault.MountFault.TheVariants.{BadStorageMap, BadMaster}
use Rattle.ods_mount.specs.Faults.{IsTrueOf}
use Rattle.ods_check.specs.declared.fault_line.FaultLine.TheVariants.{Plain}
use Rattle.ods_check.specs.Lines.{IsLineOf}
use Rattle.ods_check.proofs.Adding.{adds_if, adds_more, told_if, told_still}
use Rattle.ods_check.proofs.Telling.{true_holds, holds_true}
use Rattle.ods_check.specs.Turns.{turn_of, volume_turn}
use Rattle.ods_check.proofs.Turning.{turn_if, turn_more}
use Rattle.ods_check.proofs.system.push_system.Goals as goal

pub returns-clause-adds : goal.returns-clause-adds
returns-clause-adds c =
    let P = IsLineOf c.args.disk.now.image.now c.args.disk.now.layout.now in
    let T = IsTrueOf c.args.disk.now.image.now c.args.disk.now.layout.now in
    let start = c.args.faults.now in
    let middle = c.push_if.new.list in
    let end = c.push_if-2.new.list in
    adds_more P start middle end
    (adds_if P start middle (Plain BadStorageMap) c.is_short.result c.in_ok-push_if.ensures (true_holds c.is_short.result (T BadStorageMap) c.is_short.ensures))
    (adds_if P middle end (Plain BadMaster) c.lacks_master.result c.in_ok-push_if-2.ensures (true_holds c.lacks_master.result (T BadMaster) c.lacks_master.ensures))

pub returns-clause-storage : goal.returns-clause-storage
returns-clause-storage c t =
    let P = IsLineOf c.args.disk.now.image.now c.args.disk.now.layout.now in
    let T = IsTrueOf c.args.disk.now.image.now c.args.disk.now.layout.now in
    let middle = c.push_if.new.list in
    let end = c.push_if-2.new.list in
    told_still P middle end (Plain BadStorageMap)
    (adds_if P middle end (Plain BadMaster) c.lacks_master.result c.in_ok-push_if-2.ensures (true_holds c.lacks_master.result (T BadMaster) c.lacks_master.ensures))
    (told_if c.args.faults.now middle (Plain BadStorageMap) c.is_short.result c.in_ok-push_if.ensures (holds_true c.is_short.result (T BadStorageMap) c.is_short.ensures t))

pub returns-clause-master : goal.returns-clause-master
returns-clause-master c t =
    let T = IsTrueOf c.args.disk.now.image.now c.args.disk.now.layout.now in
    told_if c.push_if.new.list c.push_if-2.new.list (Plain BadMaster) c.lacks_master.result c.in_ok-push_if-2.ensures (holds_true c.lacks_master.result (T BadMaster) c.lacks_master.ensures t)

pub returns-clause-once : goal.returns-clause-once
returns-clause-once c =
    let start = c.args.faults.now in
    let middle = c.push_if.new.list in
    let end = c.push_if-2.new.list in
    let v = volume_turn in
    turn_more turn_of v (v + 1) (v + 2) start middle end (omega arith) (omega arith)
    (turn_if turn_of v (v + 1) start middle (Plain BadStorageMap) c.is_short.result c.in_ok-push_if.ensures (omega arith) (omega arith))
    (turn_if turn_of (v + 1) (v + 2) middle end (Plain BadMaster) c.lacks_master.result c.in_ok-push_if-2.ensures (omega arith) (omega arith))
