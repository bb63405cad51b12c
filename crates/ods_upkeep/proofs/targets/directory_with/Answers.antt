use denote.Enum.Bare.{same_false, same_true}
use Rattle.std.proofs.Common.{◌≢◌, refl, sym, subst}
use Rattle.std.specs.Prelude.{IfSome}
use Rattle.ods_shell.specs.contracts.facts.Kind.{the_type}
use Rattle.ods_shell.specs.declared.facts.Kind.TheVariants.{Directory}
use Rattle.ods_upkeep.proofs.targets.directory_with.Goals as goal
use Rattle.ods_upkeep.proofs.targets.directory_with.Goals.{in_default-via-in-Some+else-eq, in_default-via-in_default}

pub returns-in_default : goal.returns-in_default
returns-in_default c = (
  refl,
  (
    c.facts_by_id.result,
    c.facts_by_id.ensures,
    elim c.in_default.branch [
      | in_default-via-in-Some+else-eq w ↦ subst (λ known. IfSome known (λ facts. facts.kind ≢ Directory)) (sym w.in-Some.is) (same_false the_type _ _ (sym w.if-eq.ensures))
      | in_default-via-in_default w ↦ subst (λ known. IfSome known (λ facts. facts.kind ≢ Directory)) (sym w.in_default.is) tt
    ],
  ),
)

pub returns-in-Some : goal.returns-in-Some
returns-in-Some c = (c.whole.ensures, (c.in-Some.facts, c.in-Some.ensures.0, c.in-Some.ensures.1, same_true the_type tt _ _ (sym c.if-eq.ensures)))
