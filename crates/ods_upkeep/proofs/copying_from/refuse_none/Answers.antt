use Rattle.std.proofs.Common.{rules, ◌≡◌, ◌∙◌, ◌∷◌, sym, subst}
use Rattle.ods_upkeep.specs.Refused.{HasPath}
use Rattle.ods_upkeep.proofs.copying_from.refuse_none.Goals as goal

pub returns-then-are_passed_over-clause-none : goal.returns-then-are_passed_over-clause-none
returns-then-are_passed_over-clause-none c =
    let split : c.args.all.now ≡ c.in-Some.first.now ∷ c.in-Some.field-0-1.now = search rules in (
      c.in-Some.first.now,
      (
        c.in-Some.field-0-1.now,
        split,
        sym c.are_passed_over.ensures ∙ c.if-are_passed_over.true,
        c.of_path.ensures.why ∙ c.why_passed_over.ensures,
        subst (HasPath c.of_path.result) c.deref.ensures c.of_path.ensures.path,
      ),
    )
