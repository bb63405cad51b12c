use Rattle.std.proofs.Common.{subst, sym, inl}
use Rattle.ods_upkeep.specs.UncopiedTree.{IsNoWayTo}
use Rattle.ods_upkeep.proofs.copying_tree.arrive.Goals as goal

pub returns-in-Err-clause-refused : goal.returns-in-Err-clause-refused
returns-in-Err-clause-refused c =
    let old = c.args.filing.now in
    let new = c.way_to.new.filing in (
      c.facts_of-facts.result,
      c.facts_of-facts.ensures,
      inl (
        subst (λ d. IsNoWayTo c.args.stamp d c.args.dir c.args.names.now old new c.of_path.result.why) c.date_of-date.ensures
            (subst (IsNoWayTo c.args.stamp c.date_of-date.result c.args.dir c.args.names.now old new) (sym c.of_path.ensures.why) c.in-Err.ensures),
        c.of_path.ensures.path,
      ),
    )
