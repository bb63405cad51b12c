use Rattle.std.proofs.Common.{ℕ, List, ap, subst, ◌∙◌}
use Rattle.ods_header.specs.Attributes.{KeepsOtherFields}
use Rattle.ods_directory.specs.Mark.{marked}
use Rattle.ods_change.proofs.drafts.marked_header.Goals as goal

pub returns-clause-fields : goal.returns-clause-fields
returns-clause-fields c =
    let P : List ℕ → Type 0 = λ new. KeepsOtherFields c.args.header.now new c.with_attributes.result in
    subst P (c.with_mark-attributes.ensures ∙ ap (λ old. marked old c.args.mark c.args.count) c.attributes.ensures) c.with_attributes.ensures.fields
