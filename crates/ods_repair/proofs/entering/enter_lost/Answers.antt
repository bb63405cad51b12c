use Rattle.std.proofs.Common.{◌∙◌, subst, sym}
use Rattle.ods_mount.specs.Sound.{IsSoundBy}
use Rattle.ods_check.specs.Repairs.{AreLost}
use Rattle.ods_repair.specs.Asked.{AsksAll, StopsAt}
use Rattle.ods_repair.specs.Found.{AreNamed, entry_of}
use Rattle.ods_repair.proofs.Founding.{are_found}
use Rattle.ods_repair.proofs.FreedAll.{same_here}
use Rattle.ods_repair.proofs.Refusing.{not_found}
use Rattle.ods_repair.proofs.entering.enter_lost.Goals as goal
use Rattle.ods_repair.proofs.entering.enter_lost.Goals.{After-disk-3}

pub with_names-requires : goal.with_names-requires
with_names-requires c =
    subst (λ ls. AreLost c.disk-2.result.image.now c.disk-2.result.layout.now ls) (sym c.deref.ensures.value)
    (same_here (λ K M. AreLost K M c.in_ok-lost.lost.items) c.disk.result.image.now c.disk-2.result.image.now c.disk.result.layout.now c.disk-2.result.layout.now
    (c.disk.ensures.image ∙ sym c.disk-2.ensures.image) (c.disk.ensures.layout ∙ sym c.disk-2.ensures.layout) c.in_ok-lost.ensures)

-- the volume is sound at first and at last
sound_before : (c : After-disk-3) → IsSoundBy c.args.filing.now.image c.args.filing.now.layout
sound_before c = same_here IsSoundBy c.disk.result.image.now c.args.filing.now.image c.disk.result.layout.now c.args.filing.now.layout c.disk.ensures.image c.disk.ensures.layout c.disk.ensures.sound

sound_after : (c : After-disk-3) → IsSoundBy c.ask_all-asked.new.filing.image c.ask_all-asked.new.filing.layout
sound_after c =
    same_here IsSoundBy c.disk-3.result.image.now c.ask_all-asked.new.filing.image c.disk-3.result.layout.now c.ask_all-asked.new.filing.layout c.disk-3.ensures.image c.disk-3.ensures.layout c.disk-3.ensures.sound

-- what was found is of the volume at first
found : (c : After-disk-3) → AreNamed c.args.filing.now.image c.args.filing.now.layout c.in_ok-found.found.items
found c =
    same_here (λ K M. AreNamed K M c.in_ok-found.found.items) c.disk-2.result.image.now c.args.filing.now.image c.disk-2.result.layout.now c.args.filing.now.layout c.disk-2.ensures.image c.disk-2.ensures.layout c.in_ok-found.ensures

pub returns-in-Err-clause-refused : goal.returns-in-Err-clause-refused
returns-in-Err-clause-refused c =
    let all = (goal.at.returns-in-Err-clause-refused c).After-disk-3 in
    let why = c.in-Err.ensures.refused in
    not_found c.args.filing.now c.ask_all-asked.new.filing c.args.dir c.in_ok-found.found.items (found all) c.in-Err.why why.0 why.1 why.2
    (subst (λ ls. StopsAt (entry_of c.args.dir) c.args.filing.now ls c.ask_all-asked.new.filing why.0 why.1) c.deref-2.ensures.value why.3)

pub returns-clause-done : goal.returns-clause-done
returns-clause-done c =
    let all = (goal.at.returns-clause-done c).After-disk-3 in
    are_found c.args.filing.now c.ask_all-asked.new.filing (sound_before all) (sound_after all) c.args.dir c.in_ok-found.found.items (found all)
    (subst (λ ls. AsksAll (entry_of c.args.dir) c.args.filing.now ls c.ask_all-asked.new.filing) c.deref-2.ensures.value c.in_default.ensures.done)
