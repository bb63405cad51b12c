use Rattle.std.proofs.Common.{subst}
use Rattle.ods_mount.specs.Sound.{IsSoundBy}
use Rattle.ods_check.specs.Repairs.{AreDangling}
use Rattle.ods_repair.specs.Asked.{AsksAll, StopsAt}
use Rattle.ods_repair.specs.Cleared.{removal_of}
use Rattle.ods_repair.proofs.Clearing.{are_cleared}
use Rattle.ods_repair.proofs.FreedAll.{same_here}
use Rattle.ods_repair.proofs.Refusing.{not_cleared}
use Rattle.ods_repair.proofs.removing.remove_dangling.Goals as goal
use Rattle.ods_repair.proofs.removing.remove_dangling.Goals.{After-disk-2}

-- the volume is sound at first and at last
sound_before : (c : After-disk-2) → IsSoundBy c.args.filing.now.image c.args.filing.now.layout
sound_before c = same_here IsSoundBy c.disk.result.image.now c.args.filing.now.image c.disk.result.layout.now c.args.filing.now.layout c.disk.ensures.image c.disk.ensures.layout c.disk.ensures.sound

sound_after : (c : After-disk-2) → IsSoundBy c.ask_all-asked.new.filing.image c.ask_all-asked.new.filing.layout
sound_after c =
    same_here IsSoundBy c.disk-2.result.image.now c.ask_all-asked.new.filing.image c.disk-2.result.layout.now c.ask_all-asked.new.filing.layout c.disk-2.ensures.image c.disk-2.ensures.layout c.disk-2.ensures.sound

-- what was found is of the volume at first
found : (c : After-disk-2) → AreDangling c.args.filing.now.image c.args.filing.now.layout c.in_ok-found.found.items
found c =
    same_here (λ K M. AreDangling K M c.in_ok-found.found.items) c.disk.result.image.now c.args.filing.now.image c.disk.result.layout.now c.args.filing.now.layout c.disk.ensures.image c.disk.ensures.layout c.in_ok-found.ensures

pub returns-in-Err-clause-refused : goal.returns-in-Err-clause-refused
returns-in-Err-clause-refused c =
    let all = (goal.at.returns-in-Err-clause-refused c).After-disk-2 in
    let why = c.in-Err.ensures.refused in
    not_cleared c.args.filing.now c.ask_all-asked.new.filing (sound_before all) c.in_ok-found.found.items (found all) c.in-Err.why why.0 why.1 why.2
    (subst (λ ls. StopsAt removal_of c.args.filing.now ls c.ask_all-asked.new.filing why.0 why.1) c.deref.ensures.value why.3)

pub returns-clause-done : goal.returns-clause-done
returns-clause-done c =
    let all = (goal.at.returns-clause-done c).After-disk-2 in
    are_cleared c.args.filing.now c.ask_all-asked.new.filing (sound_before all) (sound_after all) c.in_ok-found.found.items (found all)
    (subst (λ ls. AsksAll removal_of c.args.filing.now ls c.ask_all-asked.new.filing) c.deref.ensures.value c.in_default.ensures.done)
