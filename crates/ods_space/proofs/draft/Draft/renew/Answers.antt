use Rattle.std.proofs.Common.{◌∷◌, ap, ◌∙◌, arith}
use Rattle.ods_space.specs.Draft.{applied}
use Rattle.ods_space.specs.Changes.{changes_of}
use Rattle.ods_space.proofs.Drafts.{renewed}
use Rattle.ods_space.proofs.draft.Draft.renew.Goals as goal

pub returns-then-is_of-clause-ok : goal.returns-then-is_of-clause-ok
returns-then-is_of-clause-ok c = λ I.
    renewed c.self.inside.changes.items c.len-count.result c.args.lbn c.index.result.now c.index_mut.result.now c.if-count-gt0.true (omega (arith, c.len-count.ensures)) c.index.ensures c.index_mut.ensures.value
    (c.is_of.ensures c.if-is_of.true) c.of.result I
    ∙ ap (λ f. applied I ((c.args.lbn, f.0) ∷ changes_of c.self.inside.changes.items)) c.of.ensures
    ∙ ap (λ d. applied I ((c.args.lbn, c.args.block) ∷ d)) c.self.view_is
