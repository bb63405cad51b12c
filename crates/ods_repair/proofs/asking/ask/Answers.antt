use Rattle.std.proofs.Common.{subst, sym}
use Rattle.ods_repair.specs.Asked.{IsNotMade, IsOfNames}
use Rattle.ods_repair.proofs.asking.ask.Goals as goal

pub make_anyway-requires-clause-names : goal.make_anyway-requires-clause-names
make_anyway-requires-clause-names g c = subst (IsOfNames c.directory.result) (sym c.request.ensures.is) c.directory.ensures

pub returns-in-Err-clause-refused : goal.returns-in-Err-clause-refused
returns-in-Err-clause-refused g c =
    (c.in-Err.reason, c.fault.ensures, c.in-Err.ensures.refused.0, subst (λ r. IsNotMade c.args.filing.now r c.make_anyway.new.filing c.in-Err.reason) c.request.ensures.is c.in-Err.ensures.refused.1)
