use Rattle.std.proofs.Common.{◌++◌, ◌∷◌, [], ap, ◌∙◌}
use Rattle.ods_space.specs.Draft.{zeroed}
use Rattle.ods_space.specs.Changes.{changes_of, filled}
use Rattle.ods_space.specs.declared.draft.Change.{Change}
use Rattle.ods_space.proofs.Drafts.{changes_of_push}
use Rattle.ods_space.proofs.draft.Draft.zero.Goals as goal

pub returns-clause-ok : goal.returns-clause-ok
returns-clause-ok c =
    let r = c.args.run in
    let cs = c.self.inside.changes.items in
    let new : Change = record { filling = c.zeros-filling.result; run = r } in
    ap changes_of (c.push_reserved.ensures.items ∙ ap (λ xs. xs ++ new ∷ []) c.in_ok-reserve.ensures.items) ∙ changes_of_push cs new
    ∙ ap (λ f. filled r f.0 (changes_of cs)) c.zeros-filling.ensures ∙ ap (zeroed r) c.self.view_is
