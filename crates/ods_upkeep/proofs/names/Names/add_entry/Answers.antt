use Rattle.std.proofs.Common.{sym, subst, [], ◌∷◌, ◌++◌}
use Rattle.ods_upkeep.specs.Counted.{AreCountsOf}
use Rattle.ods_upkeep.proofs.Counting.{counts_as_before, counts_more}
use Rattle.ods_upkeep.proofs.names.Names.add_entry.Goals as goal

pub returns-in-Some : goal.returns-in-Some
returns-in-Some c = λ entries few counts.
    let I = c.args.volume.now.image in
    let L = c.args.volume.now.layout in
    let e = c.args.entry.now in
    subst (AreCountsOf I L (entries ++ e ∷ [])) (sym c.add.ensures) (counts_more I L entries e _ few counts c.in-Some.field-0 c.in-Some.ensures.0 c.in-Some.ensures.1)

pub returns-in_default : goal.returns-in_default
returns-in_default c = λ entries few counts. counts_as_before c.args.volume.now.image c.args.volume.now.layout entries c.args.entry.now _ few counts c.in_default.ensures
