use Rattle.std.proofs.Common.{inl, inr}
use Rattle.ods_mount.specs.Checks.{IsBadlyIndexed}
use Rattle.ods_mount.proofs.index.check_index.Goals as goal

pub returns-then-not-is_well_indexed-clause-err : goal.returns-then-not-is_well_indexed-clause-err
returns-then-not-is_well_indexed-clause-err c =
    let bad : IsBadlyIndexed c.args.disk.now.layout.now c.args.home_lbn = c.if-not-is_well_indexed.ensures in
    elim bad [
      | inl few ↦ inl few
      | inr (inl (i, other)) ↦ inr (inl (i, other.0, other.1))
      | inr (inr (first, second)) ↦ inr (inr (inl (c.args.home_lbn, c.requires, first, second)))
    ]
