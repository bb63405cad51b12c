use Rattle.std.proofs.Common.{subst}
use Rattle.ods_views.specs.Viewers.{LeadsOn}
use Rattle.ods_views.proofs.told.Told.entries.Goals as goal

pub returns-clause-leads : goal.returns-clause-leads
returns-clause-leads g c = subst (LeadsOn g.J.Naming.mounted) c.self.view_is c.self.invariant.1
