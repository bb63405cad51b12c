use Rattle.std.proofs.Common.{inl}
use Rattle.ods_upkeep.proofs.DirectoriesUntarred.{known_as}
use Rattle.ods_upkeep.proofs.WaysMade.{one_made, one_not_made}
use Rattle.ods_upkeep.proofs.untarring_directories.make_one.Goals as goal

pub returns-in-Ok : goal.returns-in-Ok
returns-in-Ok c =
    known_as c.open_directory.result c.args.stamp c.args.path.now c.args.filing.now c.make_directories.new.filing c.mounted.result.now.image c.mounted.result.now.layout
    (one_made c.args.stamp c.args.path c.args.filing.now c.make_directories.new.filing c.in-Ok.ensures.made) c.mounted.ensures.0 c.mounted.ensures.1 c.open_directory.ensures

pub returns-in-Err : goal.returns-in-Err
returns-in-Err c = inl (one_not_made c.args.stamp c.args.path c.args.filing.now c.make_directories.new.filing c.in-Err.failure c.in-Err.ensures.refused)
