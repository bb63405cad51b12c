use Rattle.std.proofs.Common.{◌+◌, arith}
use Rattle.ods_check.specs.declared.fault_line.FaultLine.TheVariants.{Plain, Index}
use Rattle.ods_check.specs.declared.fault_line.IndexFault.TheVariants.{HeldPlace}
use Rattle.ods_mount.specs.declared.fault.MountFault.TheVariants.{MarkedFree}
use Rattle.ods_check.specs.Lines.{IsLineOf}
use Rattle.ods_check.proofs.Adding.{adds_more, told_still}
use Rattle.ods_check.specs.Turns.{turn_of, file_turn}
use Rattle.ods_check.proofs.Turning.{turn_more}
use Rattle.ods_check.proofs.chains.push_whole.Goals as goal

pub returns-clause-adds : goal.returns-clause-adds
returns-clause-adds c =
    let P = IsLineOf c.args.disk.now.image.now c.args.disk.now.layout.now in
    adds_more P c.args.faults.now c.push_places.new.faults c.push_names.new.faults
    (adds_more P c.args.faults.now c.push_free.new.faults c.push_places.new.faults c.in_ok-push_free.ensures.adds c.in_ok-push_places.ensures.adds)
    c.in_ok-push_names.ensures.adds

pub returns-clause-file : goal.returns-clause-file
returns-clause-file c =
    let P = IsLineOf c.args.disk.now.image.now c.args.disk.now.layout.now in
    let n = c.args.number in
    let free = c.push_free.new.faults in
    let places = c.push_places.new.faults in
    let end = c.push_names.new.faults in
    let last = c.in_ok-push_names.ensures.adds in
    let later = adds_more P free places end c.in_ok-push_places.ensures.adds last in
    record {
      free = λ b t. told_still P free end (Plain (MarkedFree n b)) later (c.in_ok-push_free.ensures.free b t);
      places = λ k t. told_still P places end (Index (HeldPlace k n)) last (c.in_ok-push_places.ensures.places k t);
      names = c.in_ok-push_names.ensures.names;
      twins = c.in_ok-push_names.ensures.twins;
    }

pub returns-clause-once : goal.returns-clause-once
returns-clause-once c =
    let start = c.args.faults.now in
    let free = c.push_free.new.faults in
    let places = c.push_places.new.faults in
    let new = c.push_names.new.faults in
    let f = file_turn c.args.number in
    turn_more turn_of (f + 2) (f + 3) (f + 6) start free new (omega arith) (omega arith) c.in_ok-push_free.ensures.once
    (turn_more turn_of (f + 3) (f + 4) (f + 6) free places new (omega arith) (omega arith) c.in_ok-push_places.ensures.once c.in_ok-push_names.ensures.once)
