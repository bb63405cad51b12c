use Rattle.std.proofs.Common.{inl}
use Rattle.std.specs.Prelude.{MatchResult}
use Rattle.std.proofs.lemmas.Result.{err_from_is_err_and}
use Rattle.ods_upkeep.specs.Wayside.{IsNotOpen, IsOpen}
use Rattle.ods_upkeep.proofs.Naming.{same_disk}
use Rattle.ods_upkeep.proofs.TreePutting.{root_ends}
use Rattle.ods_upkeep.proofs.putting_tree.root_at.Goals as goal

pub returns-in_err-make_there : goal.returns-in_err-make_there
returns-in_err-make_there c =
    let p = err_from_is_err_and c.from_residual.result c.from_residual.ensures.1 in
    rw (p.1, p.2) (inl c.in_err-make_there.ensures)

pub returns : goal.returns
returns c =
    root_ends c.open_directory.result c.args.stamp c.args.to.now c.args.filing.now c.make_there.new.filing c.in_ok-make_there.ensures
    (same_disk (λ I L. MatchResult c.open_directory.result (IsOpen I L c.args.to.now) (IsNotOpen I L c.args.to.now)) c.mounted.ensures.0 c.mounted.ensures.1 c.open_directory.ensures)
