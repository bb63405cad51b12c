use Rattle.std.proofs.Common.{subst, Result, Ok, Err}
use Rattle.std.specs.Prelude.{OnErr}
use Rattle.std.specs.List.{All}
use Rattle.std.proofs.lemmas.Bool.Decides.{when_true, when_false}
use Rattle.ods_directory.specs.Entry.{IsGoodEntry}
use Rattle.ods_directory.specs.Names.{AreDistinct, HasBadEntry, HasTwins}
use Rattle.ods_directory.proofs.Checked.{used_same}
use Rattle.ods_directory.proofs.listing.check.Goals as goal

pub returns-then-has_bad_entry-clause-bad : goal.returns-then-has_bad_entry-clause-bad
returns-then-has_bad_entry-clause-bad g c =
    λ _. subst HasBadEntry (used_same (g.B.DirBlocks.blocks c.args.blocks.now) c.args.mark c.min-cut.result c.from.result c.count.result c.min-cut.ensures c.from.ensures c.count.ensures) c.if-has_bad_entry.ensures

pub returns-then-twins-clause-twice : goal.returns-then-twins-clause-twice
returns-then-twins-clause-twice g c =
    λ _. subst HasTwins (used_same (g.B.DirBlocks.blocks c.args.blocks.now) c.args.mark c.min-cut.result c.from.result c.count.result c.min-cut.ensures c.from.ensures c.count.ensures) (when_true _ _ c.if-twins.true c.in_ok-twins.ensures)

pub returns-clause-good : goal.returns-clause-good
returns-clause-good g c =
    λ _. record {
      good = subst (All IsGoodEntry) (used_same (g.B.DirBlocks.blocks c.args.blocks.now) c.args.mark c.min-cut.result c.from.result c.count.result c.min-cut.ensures c.from.ensures c.count.ensures) c.if-has_bad_entry.ensures;
      distinct = subst AreDistinct (used_same (g.B.DirBlocks.blocks c.args.blocks.now) c.args.mark c.min-cut.result c.from.result c.count.result c.min-cut.ensures c.from.ensures c.count.ensures) (when_false _ _ c.if-twins.false c.in_ok-twins.ensures);
    }

-- what is so anyway is so at an error
at_err : {T E P : Type 0} → (r : Result T E) → P → OnErr r P
at_err (Ok x) p = tt
at_err (Err e) p = p

pub returns-in_err-twins-clause-memory : goal.returns-in_err-twins-clause-memory
returns-in_err-twins-clause-memory g c =
    at_err c.from_residual.result (subst (All IsGoodEntry) (used_same (g.B.DirBlocks.blocks c.args.blocks.now) c.args.mark c.min-cut.result c.from.result c.count.result c.min-cut.ensures c.from.ensures c.count.ensures) c.if-has_bad_entry.ensures)
