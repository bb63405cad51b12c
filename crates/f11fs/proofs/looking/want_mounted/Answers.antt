use Rattle.std.proofs.Common.{List, ℕ, Option, Some, map, string_bytes, ap, subst, sym, ◌∙◌}
use Rattle.fs_words.specs.declared.words.Words.{Words}
use Rattle.fs_words.specs.Parts.{IsLineOf}
use Rattle.f11fs.proofs.looking.want_mounted.Goals as goal

pub returns-in-Ok-Some : goal.returns-in-Ok-Some
returns-in-Ok-Some c = λ wants. (
  c.in-Ok-Some.own,
  (
    map (λ s. string_bytes s) c.in-Ok.words.items,
    c.in-Ok.ensures.words,
    subst (λ (ws : List (List ℕ)). IsLineOf c.args.image ws (Some c.in-Ok-Some.own)) (ap (λ xs. map (λ s. string_bytes s) xs) c.as_slice.ensures.value)
        (subst (λ (o : Option Words). IsLineOf c.args.image (map (λ s. string_bytes s) c.as_slice.result.now) o) c.in-Ok-Some.field-0-is c.in-Ok-Some.ensures.found),
  ),
  sym c.is_for_mounted.ensures ∙ wants,
)
