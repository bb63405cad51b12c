use Rattle.std.proofs.Common.{inr}
use Rattle.ods_upkeep.proofs.CopiedTrees.{told_more, way_on}
use Rattle.ods_upkeep.proofs.copying_tree.way_to.Goals as goal

pub returns-in-Ok : goal.returns-in-Ok
returns-in-Ok c =
    let before = c.in-Some.before.now in
    let last = c.in-Some.last.now in
    let split = c.in-Some.ensures.cases.0 in
    told_more c.reach_below.result
    (λ r reached. way_on c.args.run c.args.date c.args.dir c.args.names.now before last r.1 c.args.filing.now c.in-Ok.up c.place_below.new.filing r.0 c.reach_below.new.filing split c.in-Ok.ensures.placed reached)
    (λ why none. (before, (last, split, inr (c.in-Ok.up, (c.place_below.new.filing, c.in-Ok.ensures.placed, none))))) c.reach_below.ensures
