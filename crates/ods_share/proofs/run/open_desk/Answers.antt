use Rattle.std.proofs.Common.{length}
use Rattle.ods_share.proofs.Runs.{enough_viewers}
use Rattle.ods_share.proofs.run.open_desk.Goals as goal

pub returns-then-have_views-clause-viewers : goal.returns-then-have_views-clause-viewers
returns-then-have_views-clause-viewers g c =
    enough_viewers (length c.args.scripts.now) c.places_for-places.result c.args.volume.entries c.new.result c.places_for-places.ensures.enough c.new.ensures.viewers

pub returns-else-have_views-clause-viewers : goal.returns-else-have_views-clause-viewers
returns-else-have_views-clause-viewers g c =
    enough_viewers (length c.args.scripts.now) c.places_for-places.result c.args.volume.entries c.without_views.result c.places_for-places.ensures.enough c.without_views.ensures.viewers
