use Rattle.std.proofs.Common.{◌++◌, ◌∷◌, [], refl, ap, ◌∙◌}
use Rattle.ods_space.specs.Changes.{changes_of}
use Rattle.ods_space.specs.declared.draft.Change.{Change}
use Rattle.ods_space.proofs.Drafts.{pushed_one}
use Rattle.ods_space.proofs.draft.Draft.set.Goals as goal

pub returns-clause-ok : goal.returns-clause-ok
returns-clause-ok c =
    let lbn = c.args.lbn in
    let b = c.args.block in
    let new : Change = record { filling = c.of-filling.result; run = record { lbn = lbn; count = 1 } } in
    ap changes_of (c.push_reserved.ensures.items ∙ ap (λ cs. cs ++ new ∷ []) c.in_ok-reserve.ensures.items)
    ∙ pushed_one c.self.inside.changes.items new lbn (refl, refl) ∙ ap (λ f. (lbn, f.0) ∷ changes_of c.self.inside.changes.items) c.of-filling.ensures ∙ ap (λ d. (lbn, b) ∷ d) c.self.view_is
