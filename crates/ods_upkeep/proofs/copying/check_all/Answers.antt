use Rattle.std.proofs.Common.{subst, sym}
use Rattle.std.proofs.lemmas.List.{drop_all}
use Rattle.ods_upkeep.specs.Uncopied.{MayAllBeCopied, MayBeCopied}
use Rattle.ods_upkeep.proofs.Copies.{first_here, first_on, may_on}
use Rattle.ods_upkeep.proofs.copying.check_all.Goals as goal

pub loop-found-init : goal.loop-found-init
loop-found-init c = record { may = λ may. may; first = λ failure first. first }

pub loop-found-preserved : goal.loop-found-preserved
loop-found-preserved c =
    let reader = c.args.reader in
    let to = c.args.target.now in
    let item = c.found-item in
    let one : MayBeCopied reader to item.result = (c.in_default.field-0.0, (c.in_default.field-0.1, c.in_default.ensures.ok)) in
    record {
      may = λ may. c.loop-found.invariant.may (may_on reader to c.args.all.now c.loop-found.found-index item.result c.loop-found-test.true item.is one may);
      first = λ failure first. c.loop-found.invariant.first failure (first_on reader to c.args.all.now c.loop-found.found-index item.result failure c.loop-found-test.true item.is one first);
    }

pub returns-clause-ok : goal.returns-clause-ok
returns-clause-ok c = c.loop-found.invariant.may (subst (MayAllBeCopied c.args.reader c.args.target.now) (sym (drop_all c.loop-found.found-index c.args.all.now c.loop-found-test.false)) tt)

pub returns-in-Err-clause-err : goal.returns-in-Err-clause-err
returns-in-Err-clause-err c =
    c.loop-found.invariant.first c.of_path.result
    (first_here c.args.reader c.args.target.now c.args.all.now c.loop-found.found-index c.found-item.result c.deref.result.now c.in-Err.why c.of_path.result c.loop-found-test.true c.found-item.is c.in-Err.ensures.err
    c.of_path.ensures.why c.deref.ensures c.of_path.ensures.path)
