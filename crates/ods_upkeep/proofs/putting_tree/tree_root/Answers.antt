use Rattle.std.proofs.Common.{sym, subst}
use Rattle.ods_upkeep.specs.TreePut.{IsNoRoot}
use Rattle.ods_upkeep.proofs.putting_tree.tree_root.Goals as goal

pub returns-in-Err-clause-refused : goal.returns-in-Err-clause-refused
returns-in-Err-clause-refused c = (
  subst (IsNoRoot c.args.stamp c.args.to.now c.args.filing.now c.root_at.new.filing) (sym c.of_path.ensures.why) c.in-Err.ensures,
  c.of_path.ensures.path,
)
