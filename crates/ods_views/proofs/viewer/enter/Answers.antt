use Rattle.ods_views.proofs.Begun.{looks}
use Rattle.ods_views.proofs.viewer.enter.Goals as goal

pub enter_as-requires : goal.enter_as-requires
enter_as-requires g c = looks g.J.Naming.mounted g.J.Naming.opening _ _ g.N.Asking.least
