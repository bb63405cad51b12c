use Rattle.ods_views.proofs.Begun.{admits}
use Rattle.ods_views.proofs.viewer.Viewer.beside.Goals as goal

pub reader-requires : goal.reader-requires
reader-requires g c = admits g.J.Naming.mounted g.J.Naming.opening
