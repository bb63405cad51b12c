use Rattle.std.proofs.Common.{refl, subst, Some, false}
use Rattle.std.proofs.lemmas.Result.{IfErr-weaker, err_from_is_err_and}
use Rattle.ods_upkeep.specs.Copied.{IsCopyable}
use Rattle.ods_upkeep.specs.Uncopied.{IsCopyUnmade, IsNotCopied, unread}
use Rattle.ods_upkeep.proofs.Copies.{is_copied, may_not, not_copied}
use Rattle.ods_upkeep.proofs.Lists.{if_done}
use Rattle.ods_upkeep.proofs.copying.copy.Goals as goal

pub returns-clause-led : goal.returns-clause-led
returns-clause-led c anywhere = c.make_copy.ensures.led false (λ none. refl) anywhere

pub returns-clause-done : goal.returns-clause-done
returns-clause-done c =
    if_done c.make_copy.result
    (is_copied c.args.placing c.args.target.now c.args.stamp c.args.found.now c.args.filing.now c.make_copy.new.filing c.user-user.result c.in_ok-facts.facts c.in_ok-facts.name c.in_ok-bytes.bytes.items c.deref.result.now
    c.user-user.ensures c.in_ok-facts.ensures.ok c.in_ok-bytes.ensures.ok c.deref.ensures.value) c.make_copy.ensures.done

pub returns-clause-refused : goal.returns-clause-refused
returns-clause-refused c =
    let facts = c.in_ok-facts.facts in
    let name = c.in_ok-facts.name in
    IfErr-weaker c.make_copy.result (IsCopyUnmade c.args.placing c.args.target.now name c.args.stamp facts c.deref.result.now c.args.filing.now c.make_copy.new.filing)
    (IsNotCopied c.args.placing c.args.target.now c.args.stamp c.args.found.now c.args.filing.now c.make_copy.new.filing)
    (λ why refused. not_copied why c.args.placing c.args.target.now c.args.stamp c.args.found.now c.args.filing.now c.make_copy.new.filing c.user-user.result facts name c.in_ok-bytes.bytes.items c.deref.result.now
    c.user-user.ensures c.in_ok-facts.ensures.ok c.in_ok-bytes.ensures.ok c.deref.ensures.value refused) c.make_copy.ensures.refused

pub returns-in_err-facts-clause-refused : goal.returns-in_err-facts-clause-refused
returns-in_err-facts-clause-refused c =
    let p = err_from_is_err_and c.from_residual.result c.from_residual.ensures.1 in
    rw (p.1, p.2) (may_not _ c.args.placing c.args.target.now c.args.stamp c.args.found.now c.args.filing.now c.user-user.result c.user-user.ensures c.in_err-facts.ensures.err)

pub returns-in_err-bytes-clause-refused : goal.returns-in_err-bytes-clause-refused
returns-in_err-bytes-clause-refused c =
    let facts = c.in_ok-facts.facts in
    let name = c.in_ok-facts.name in
    let p = err_from_is_err_and c.from_residual-in_err-bytes.result c.from_residual-in_err-bytes.ensures.1 in
    rw (p.1, p.2) (unread _ facts name (subst (λ u. IsCopyable (Some u) c.args.target.now c.args.found.now facts name) c.user-user.ensures c.in_ok-facts.ensures.ok) c.in_err-bytes.ensures.err refl)
