use Rattle.std.proofs.Common.{◌≡◌, List, sym, subst}
use Rattle.std.specs.Prelude.{All}
use Rattle.ods_request.specs.declared.answers.Entry.{Entry}
use Rattle.ods_views.specs.Viewers.{newly}
use Rattle.ods_share.proofs.desk.Desk.without_views.Goals as goal

pub returns-in-Ok-clause-viewers : goal.returns-in-Ok-clause-viewers
returns-in-Ok-clause-viewers g c =
    (c.in-Ok.ensures.0, subst (λ (l : List Entry). All (λ x. x ≡ newly l) c.in-Ok.viewers.items) (sym c.requires.opening) c.in-Ok.ensures.1)
