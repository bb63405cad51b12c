use Rattle.std.proofs.Common.{rules, ◌≡◌, ◌∙◌, ◌-◌, ◌<◌, set, ap, refl, subst}
use Rattle.std.specs.Prelude.{slice_index}
use Rattle.std.proofs.lemmas.List.{get_or_read}
use Rattle.ods_base.specs.Block.{zeros}
use Rattle.ods_base.specs.Overlay.{overlaid}
use Rattle.ods_base.proofs.Overlays.{zeroed_overlay, zeroed_changed, renewed_changed}
use Rattle.ods_base.proofs.seats.put_zeros.Goals as goal
use Rattle.ods_base.proofs.seats.put_zeros.Goals.{After-index}

-- the seat that is read
read : (c : After-index) → c.index.result.now ≡ slice_index c.reach.new.seats.items c.args.at
read c = get_or_read c.reach.new.seats.items c.args.at c.index.result.now c.reach.ensures.reached c.index.ensures 0

pub returns-then-seat-lt2-clause-overlay : goal.returns-then-seat-lt2-clause-overlay
returns-then-seat-lt2-clause-overlay c =
    zeroed_overlay c.args.count c.args.seats.now.items c.reach.new.seats.items c.args.own.now.items c.args.at zeros c.requires.overlay c.reach.ensures.same c.requires.inside c.reach.ensures.reached
    (subst (λ s. s < 2) (read (goal.at.returns-then-seat-lt2-clause-overlay c).After-index) c.if-seat-lt2.true)

pub returns-then-seat-lt2-clause-changed : goal.returns-then-seat-lt2-clause-changed
returns-then-seat-lt2-clause-changed c B =
    zeroed_changed c.args.count c.args.seats.now.items c.reach.new.seats.items c.args.own.now.items c.args.at zeros c.requires.overlay c.reach.ensures.same c.requires.inside c.reach.ensures.reached
    (subst (λ s. s < 2) (read (goal.at.returns-then-seat-lt2-clause-changed c).After-index) c.if-seat-lt2.true) B refl

pub returns-else-seat-lt2-clause-changed : goal.returns-else-seat-lt2-clause-changed
returns-else-seat-lt2-clause-changed c B =
    let some : 1 < slice_index c.reach.new.seats.items c.args.at = search (rules, read (goal.at.returns-else-seat-lt2-clause-changed c).After-index) in
    ap (λ p. overlaid B c.reach.new.seats.items (set c.args.own.now.items (p - 1) c.zeros.result)) (read (goal.at.returns-else-seat-lt2-clause-changed c).After-index)
    ∙ ap (λ b. overlaid B c.reach.new.seats.items (set c.args.own.now.items (slice_index c.reach.new.seats.items c.args.at - 1) b)) c.zeros.ensures.value
    ∙ renewed_changed c.args.count c.args.seats.now.items c.reach.new.seats.items c.args.own.now.items c.args.at zeros c.requires.overlay c.reach.ensures.same c.requires.inside c.reach.ensures.reached some B
