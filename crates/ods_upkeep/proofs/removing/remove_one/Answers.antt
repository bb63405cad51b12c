use Rattle.std.proofs.Common.{subst, sym}
use Rattle.std.proofs.lemmas.Result.{err_from_is_err_and}
use Rattle.ods_filing.specs.Led.{IsLed}
use Rattle.ods_filing.proofs.Led.{allows_more, then_led}
use Rattle.ods_upkeep.specs.Kinds.{Removes}
use Rattle.ods_upkeep.specs.Refused.{StopsAt}
use Rattle.ods_upkeep.specs.Removed.{entry_gone}
use Rattle.ods_upkeep.proofs.Gone.{entry_stays}
use Rattle.ods_upkeep.proofs.Lists.{removes_more}
use Rattle.ods_upkeep.proofs.removing.remove_one.Goals as goal

pub returns-clause-led : goal.returns-clause-led
returns-clause-led c =
    subst (λ alone. IsLed (Removes alone) c.args.filing.now c.delete_unnamed.new.filing) (sym c.if-removal.false) (then_led (allows_more (removes_more _) c.remove_place.ensures.led) c.delete_unnamed.ensures.led)

pub returns-in_err-remove_place-clause-refused : goal.returns-in_err-remove_place-clause-refused
returns-in_err-remove_place-clause-refused c =
    let p = err_from_is_err_and c.from_residual.result c.from_residual.ensures.1 in
    rw (p.1, p.2)
    (entry_stays c.args.filing.now c.remove_place.new.filing c.args.removal.entry_alone _ c.args.found.now.place c.args.found.now.facts _
    (subst (λ place. StopsAt c.args.filing.now (entry_gone place) c.remove_place.new.filing c.in_err-remove_place.field-0.0) c.place.ensures c.in_err-remove_place.ensures.refused))
