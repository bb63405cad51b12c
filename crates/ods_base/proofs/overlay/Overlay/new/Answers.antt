use Rattle.std.proofs.Common.{◌∙◌, ap, sym}
use Rattle.ods_base.specs.Overlay.{overlaid}
use Rattle.ods_base.proofs.Overlays.{held_new, overlaid_none}
use Rattle.ods_base.proofs.overlay.Overlay.new.Goals as goal

pub invariant_of-result : goal.invariant_of-result
invariant_of-result c = held_new c.args.base _ _ _ _ c.len.ensures.image c.requires.seats c.requires.own c.requires.seat_room c.requires.room

pub returns : goal.returns
returns c = ap (λ p. overlaid c.args.base p c.args.own.items) c.requires.seats ∙ sym (overlaid_none c.args.base c.args.own.items)
