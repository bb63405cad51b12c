use Rattle.std.proofs.Common.{refl, sym, subst, inl, inr}
use Rattle.ods_upkeep.specs.Cut.{IsCut, IsNotCut, StopsCutting}
use Rattle.ods_upkeep.proofs.Naming.{same_disk}
use Rattle.ods_upkeep.proofs.truncating.truncate_file.Goals as goal

pub returns-in-Err-clause-refused : goal.returns-in-Err-clause-refused
returns-in-Err-clause-refused c = (
  c.of_path.ensures.path,
  inl (
    refl,
    subst (IsNotCut c.args.filing.now.image c.args.filing.now.layout c.args.path.now c.args.bytes) (sym c.of_path.ensures.why)
        (same_disk (λ J M. IsNotCut J M c.args.path.now c.args.bytes c.in-Err.why) c.mounted.ensures.0 c.mounted.ensures.1 c.in-Err.ensures),
  ),
)

pub returns-in-Err-cut-clause-refused : goal.returns-in-Err-cut-clause-refused
returns-in-Err-cut-clause-refused c = (
  c.of_path-in-Err-cut.ensures.path,
  inr (
    c.in-Ok.facts,
    same_disk (λ J M. IsCut J M c.args.path.now c.args.bytes c.in-Ok.facts) c.mounted.ensures.0 c.mounted.ensures.1 c.in-Ok.ensures,
    subst (StopsCutting c.in-Ok.facts c.args.bytes c.args.filing.now c.cut.new.filing) (sym c.of_path-in-Err-cut.ensures.why) c.in-Err-cut.ensures.refused,
  ),
)
