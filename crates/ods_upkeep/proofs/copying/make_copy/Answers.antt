use Rattle.std.proofs.Common.{◌≡◌, ◌≤◌, ◌*◌, ◌^◌, ◌∙◌, refl, sym, subst, arith}
use Rattle.std.proofs.lemmas.Result.{err_from_is_err_and}
use Rattle.ods_request.specs.declared.requests.Request.TheVariants.{LookUp}
use Rattle.ods_base.specs.declared.name.Pick.TheVariants.{Highest}
use Rattle.ods_filing.specs.Led.{IsLed}
use Rattle.ods_filing.proofs.Led.{asked, same_user, then_led}
use Rattle.ods_upkeep.specs.Kinds.{Copies}
use Rattle.ods_upkeep.specs.Uncopied.{IsCopyUnmade, too_large}
use Rattle.ods_upkeep.proofs.Copies.{copy_made, copy_not_given, copy_unmade}
use Rattle.ods_upkeep.proofs.Legs.{one_leg}
use Rattle.ods_upkeep.proofs.PutLists.{own_made}
use Rattle.ods_upkeep.proofs.copying.make_copy.Goals as goal

pub returns-in-Ok-clause-led : goal.returns-in-Ok-clause-led
returns-in-Ok-clause-led c owners alone anywhere =
    let looked : IsLed Copies c.args.filing.now c.next_version-version.new.filing = asked (LookUp c.args.target.now.directory c.args.name Highest) tt c.next_version-version.ensures.looked in
    let is : c.user-user.result ≡ c.next_version-version.new.filing.user = c.user-user.ensures ∙ sym (same_user looked) in
    let made : IsLed Copies c.next_version-version.new.filing c.put_new.new.filing =
    own_made _ _ _ _ _ c.in_ok-copy.copy c.next_version-version.new.filing c.put_new.new.filing c.args.placing c.user-user.result anywhere is c.in_ok-copy.ensures.made in
    one_leg owners c.in_ok-copy.copy c.args.owner c.args.facts.now.protection alone (then_led looked made) c.in-Ok.ensures.given

pub returns-in-Ok-clause-done : goal.returns-in-Ok-clause-done
returns-in-Ok-clause-done c =
    copy_made c.args.placing c.args.target.now c.args.name c.args.stamp c.args.owner c.args.facts.now c.args.filing.now c.next_version-version.new.filing c.put_new.new.filing c.set_access.new.self c.user-user.result
    c.in_ok-attributes.attributes c.args.bytes.now c.next_version-version.result c.in_ok-copy.copy c.user-user.ensures c.in_ok-attributes.ensures.ok c.next_version-version.ensures.next c.in_ok-copy.ensures.made c.in-Ok.ensures.given

pub returns-in-Err-clause-refused : goal.returns-in-Err-clause-refused
returns-in-Err-clause-refused c =
    copy_not_given c.args.placing c.args.target.now c.args.name c.args.stamp c.args.facts.now c.args.filing.now c.next_version-version.new.filing c.put_new.new.filing c.set_access.new.self c.user-user.result
    c.in_ok-attributes.attributes c.args.bytes.now c.next_version-version.result c.in_ok-copy.copy c.in-Err.refusal c.user-user.ensures c.in_ok-attributes.ensures.ok c.next_version-version.ensures.next c.in_ok-copy.ensures.made
    c.in-Err.ensures.refused c.in-Err.ensures.unchanged

pub returns-in_err-attributes-clause-refused : goal.returns-in_err-attributes-clause-refused
returns-in_err-attributes-clause-refused c =
    let p = err_from_is_err_and c.from_residual.result c.from_residual.ensures.1 in
    let large : 512 * 2 ^ 20 ≤ 512 * c.args.facts.now.blocks = omega (arith, c.in_err-attributes.ensures.err.1) in
    rw (p.1, p.2) (subst (IsCopyUnmade c.args.placing c.args.target.now c.args.name c.args.stamp c.args.facts.now c.args.bytes.now c.args.filing.now c.args.filing.now) (sym c.in_err-attributes.ensures.err.0) (too_large large refl))

pub returns-in_err-copy-clause-refused : goal.returns-in_err-copy-clause-refused
returns-in_err-copy-clause-refused c =
    let p = err_from_is_err_and c.from_residual-in_err-copy.result c.from_residual-in_err-copy.ensures.1 in
    rw (p.1, p.2) (copy_unmade _ c.args.placing c.args.target.now c.args.name c.args.stamp c.args.facts.now c.args.filing.now c.next_version-version.new.filing c.put_new.new.filing c.user-user.result c.in_ok-attributes.attributes
    c.args.bytes.now c.next_version-version.result c.user-user.ensures c.in_ok-attributes.ensures.ok c.next_version-version.ensures.next c.in_err-copy.ensures.refused)
