use Rattle.std.proofs.Common.{◌∙◌, ap, sym, length}
use Rattle.ods_base.proofs.Overlays.{length-overlaid}
use Rattle.ods_base.proofs.overlay.Overlay.len.Goals as goal

pub returns-clause-value : goal.returns-clause-value
returns-clause-value c =
    let inside = c.self.inside in
    c.len.ensures.value ∙ sym (length-overlaid inside.base inside.seats.items inside.own.items) ∙ ap length c.self.view_is
