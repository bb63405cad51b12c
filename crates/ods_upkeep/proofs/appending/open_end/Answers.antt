use Rattle.std.proofs.Common.{sym, subst}
use Rattle.ods_upkeep.specs.Appended.{IsNotOpened}
use Rattle.ods_upkeep.proofs.appending.open_end.Goals as goal

pub returns-in-Err : goal.returns-in-Err
returns-in-Err c = (
  c.of_path.ensures.path,
  subst (IsNotOpened c.args.volume.now.image c.args.volume.now.layout c.args.path.now) (sym c.of_path.ensures.why) c.in-Err.ensures,
)
