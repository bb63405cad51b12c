use Rattle.std.proofs.Common.{◌∷◌, ap, sym, ◌∙◌, subst}
use Rattle.ods_amend.specs.Access.{IsWithAccess}
use Rattle.ods_amend.proofs.GivenAccess.{draft_sets}
use Rattle.ods_amend.proofs.access.draft_header.Goals as goal

pub returns : goal.returns
returns c =
    let x = c.unwrap-lbn.result in
    let b = c.with_access-header.result in
    draft_sets c.requires.sound c.requires.file x b (sym c.place.ensures ∙ c.unwrap-lbn.ensures)
    (subst (λ h. IsWithAccess h c.args.owner c.args.protection c.args.flags b) c.requires.first c.with_access-header.ensures)
    (c.in_ok-set.ensures.ok ∙ ap (λ d. (x, b) ∷ d) c.new-draft.ensures)
