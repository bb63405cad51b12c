use denote.Enum.Bare.{same_true}
use Rattle.std.proofs.Common.{rules, ◌≡◌, ◌∙◌, sym, subst, Some, false}
use Rattle.std.proofs.lemmas.Result.{err_from_is_err_and}
use Rattle.ods_shell.specs.contracts.facts.Kind.{the_type}
use Rattle.ods_upkeep.specs.Copied.{IsUncopyable, may_read, not_there, reserved, directory, denied, nameless, of_directory}
use Rattle.ods_upkeep.proofs.copying.check.Goals as goal

pub returns-in_default-clause-err : goal.returns-in_default-clause-err
returns-in_default-clause-err c = not_there (search rules)

pub returns-then-facts-le2-clause-err : goal.returns-then-facts-le2-clause-err
returns-then-facts-le2-clause-err c = reserved c.in-Some.facts (search rules) c.if-facts-le2.true

pub returns-then-eq-clause-err : goal.returns-then-eq-clause-err
returns-then-eq-clause-err c = directory c.in-Some.facts (search rules) (same_true the_type (search rules) _ _ (sym c.if-eq.ensures))

pub returns-then-not-may_read-clause-err : goal.returns-then-not-may_read-clause-err
returns-then-not-may_read-clause-err c =
    let no : may_read c.args.reader c.in-Some.facts ≡ false = search rules in
    denied c.in-Some.facts (search rules) no

pub returns-in_err-name-clause-err : goal.returns-in_err-name-clause-err
returns-in_err-name-clause-err c =
    let known : c.args.found.now.facts ≡ Some c.in-Some.facts = search rules in
    let p = err_from_is_err_and c.from_residual.result c.from_residual.ensures.1 in
    rw (p.1, p.2) (subst (IsUncopyable c.args.reader c.args.target.now c.args.found.now) (sym c.in_err-name.ensures.err.0) (nameless c.in-Some.facts known c.in_err-name.ensures.err.1))

pub returns-then-ext-eq-DIRECTORY_TYPE-clause-err :
    goal.returns-then-ext-eq-DIRECTORY_TYPE-clause-err
returns-then-ext-eq-DIRECTORY_TYPE-clause-err c =
    of_directory c.in-Some.facts c.in_ok-name.name (search rules) c.in_ok-name.ensures.ok (sym c.ext.ensures.value ∙ c.if-ext-eq-DIRECTORY_TYPE.true)
