use Rattle.std.proofs.Common.{ℕ, ◌+◌, refl, arith}
use Rattle.ods_mount.specs.declared.fault.MountFault.TheVariants.{BadStorageMap, BadMaster, UnsupportedMap}
use Rattle.ods_check.specs.declared.fault_line.FaultLine.TheVariants.{Plain}
use Rattle.ods_check.specs.Lines.{IsLineOf}
use Rattle.ods_check.specs.Faults.{TellsFile}
use Rattle.ods_check.proofs.Adding.{adds_more, told_still}
use Rattle.ods_check.proofs.FileFaults.{told_file_still}
use Rattle.ods_check.proofs.Lines.{each_reason, some_reason, told_index_still}
use Rattle.ods_check.proofs.Sweeping.{each_adds, each_told, each_turn}
use Rattle.ods_check.specs.Turns.{turn_of, volume_turn, file_turn, pair_turn, last_turn}
use Rattle.ods_check.proofs.Turning.{turn_more}
use Rattle.ods_check.proofs.faults.push_all.Goals as goal

pub returns-clause-adds : goal.returns-clause-adds
returns-clause-adds c =
    let P = IsLineOf c.args.disk.now.image.now c.args.disk.now.layout.now in
    let start = c.args.faults.now in
    let system = adds_more P start c.push_index.new.faults c.push_system.new.faults c.in_ok-push_index.ensures.adds c.in_ok-push_system.ensures.adds in
    let formats = adds_more P start c.push_system.new.faults c.push_each.new.told system (each_adds _ _ _ _ c.in_ok-push_each.ensures.each P (λ n t. t)) in
    let files = adds_more P start c.push_each.new.told c.push_files.new.faults formats c.in_ok-push_files.ensures.adds in
    adds_more P start c.push_files.new.faults c.push_shared.new.faults files c.in_ok-push_shared.ensures.adds

pub returns-clause-all : goal.returns-clause-all
returns-clause-all c =
    let P = IsLineOf c.args.disk.now.image.now c.args.disk.now.layout.now in
    let first = c.push_index.new.faults in
    let middle = c.push_system.new.faults in
    let formats = c.push_each.new.told in
    let I = c.args.disk.now.image.now in
    let L = c.args.disk.now.layout.now in
    let files = c.push_files.new.faults in
    let end = c.push_shared.new.faults in
    let shared = c.in_ok-push_shared.ensures.adds in
    let last = adds_more P formats files end c.in_ok-push_files.ensures.adds shared in
    let later = adds_more P middle formats end (each_adds _ _ _ _ c.in_ok-push_each.ensures.each P (λ n t. t)) last in
    let index = told_index_still I L P first end (adds_more P first middle end c.in_ok-push_system.ensures.adds later) c.in_ok-push_index.ensures.index in
    let of_files : (n : ℕ) → TellsFile I L end.0 n = λ n. told_file_still I L n P files end shared (c.in_ok-push_files.ensures.files n) in
    record {
      index = each_reason I L end.0 index of_files;
      bad_index = some_reason I L end.0 index of_files;
      storage = λ t. told_still P middle end (Plain BadStorageMap) later (c.in_ok-push_system.ensures.storage t);
      master = λ t. told_still P middle end (Plain BadMaster) later (c.in_ok-push_system.ensures.master t);
      formats = λ n t. told_still P formats end (Plain (UnsupportedMap n)) last (each_told _ _ _ _ c.in_ok-push_each.ensures.each n t);
      files = of_files;
      shared = c.in_ok-push_shared.ensures.all;
    }

pub returns-clause-once : goal.returns-clause-once
returns-clause-once c =
    let start = c.args.faults.now in
    let index = c.push_index.new.faults in
    let system = c.push_system.new.faults in
    let formats = c.push_each.new.told in
    let files = c.push_files.new.faults in
    let end = c.push_shared.new.faults in
    let v = volume_turn in
    turn_more turn_of 0 v last_turn start index end (omega arith) (omega arith) c.in_ok-push_index.ensures.once
    (turn_more turn_of v (v + 2) last_turn index system end (omega arith) (omega arith) c.in_ok-push_system.ensures.once
    (turn_more turn_of (v + 2) (file_turn 0) last_turn system formats end (omega arith) (omega arith) (each_turn _ _ _ _ c.in_ok-push_each.ensures.each turn_of (v + 2) (file_turn 0) (λ n t. let few = c.in_ok-push_each.ensures.few n t in (refl, omega arith)))
    (turn_more turn_of (file_turn 0) (pair_turn 0 0) last_turn formats files end (omega arith) (omega arith) c.in_ok-push_files.ensures.once c.in_ok-push_shared.ensures.once)))
