use Rattle.std.proofs.Common.{rules, ◌≡◌, length, sym, ◌∙◌, arith}
use Rattle.ods_init.proofs.LabelMade.{padded_by}
use Rattle.ods_amend.proofs.label.zero_padded.Goals as goal

pub returns-clause-value : goal.returns-clause-value
returns-clause-value c =
    let size : length c.args.label.now ≡ 12 = omega arith in
    padded_by c.args.label.now c.map.result (c.map.ensures.items.long ∙ sym size) (λ i low. let call = c.map.ensures.items.at i 0 0 (omega (arith, low, size)) in search rules)
