use Rattle.ods_upkeep.proofs.CopiedTrees.{not_reached, reached, told_more}
use Rattle.ods_upkeep.proofs.copying_tree.reach_below.Goals as goal

pub returns-in-None : goal.returns-in-None
returns-in-None c =
    told_more c.make_named.result
    (λ r made. reached c.args.stamp c.args.dir c.args.name c.args.filing.now c.look_up.new.filing c.make_named.new.filing c.in-None.ensures.seen r.1 r.0 made)
    (λ why none. not_reached c.args.stamp c.args.dir c.args.name c.args.filing.now c.look_up.new.filing c.make_named.new.filing c.in-None.ensures.seen why none) c.make_named.ensures
