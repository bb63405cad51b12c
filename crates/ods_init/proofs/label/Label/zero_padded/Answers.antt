use Rattle.std.proofs.Common.{rules, sym, ap, ◌∙◌, arith}
use Rattle.ods_init.specs.Label.{zero_padded}
use Rattle.ods_init.proofs.LabelMade.{padded_by}
use Rattle.ods_init.proofs.label.Label.zero_padded.Goals as goal

pub returns : goal.returns
returns c =
    padded_by c.self.inside.text c.map.result (c.map.ensures.items.long ∙ sym c.self.told) (λ i low. let call = c.map.ensures.items.at i 0 0 (omega (arith, c.self.told)) in search rules)
    ∙ ap zero_padded c.self.view_is
