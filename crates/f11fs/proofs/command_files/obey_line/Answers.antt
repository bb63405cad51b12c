use Rattle.ods_shell.specs.declared.status.Status.TheVariants.{Done}
use Rattle.std.proofs.Common.{List, ℕ, Option, Some, map, string_bytes, ap, subst}
use Rattle.fs_words.specs.declared.words.Words.{Words}
use Rattle.fs_words.specs.Parts.{IsLineOf}
use Rattle.f11fs.proofs.Leading.{line_done, line_left}
use Rattle.f11fs.proofs.command_files.obey_line.Goals as goal

pub returns-in-Ok-None-clause-done : goal.returns-in-Ok-None-clause-done
returns-in-Ok-None-clause-done g c = λ _. line_left (g.R.Host.gives c.args.rt.now) c.args.run.now.outer.now.image c.args.run.now.asker.stamp c.args.run.now.asker.user c.args.line.now Done c.args.filing.now

pub returns-clause-done : goal.returns-clause-done
returns-clause-done g c = λ _. line_left (g.R.Host.gives c.args.rt.now) c.args.run.now.outer.now.image c.args.run.now.asker.stamp c.args.run.now.asker.user c.args.line.now c.say_bad_words.result c.args.filing.now

pub returns-in-Ok-Some-clause-done : goal.returns-in-Ok-Some-clause-done
returns-in-Ok-Some-clause-done g c = λ stands.
    line_done (g.R.Host.gives c.args.rt.now) c.args.run.now.outer.now.image c.args.run.now.asker.stamp c.args.run.now.asker.user c.args.line.now (map (λ s. string_bytes s) c.in-Ok.words.items) c.in-Ok-Some.own c.obey_words.result.0 c.args.filing.now c.obey_words.new.filing
    c.in-Ok.ensures.words
    (subst (λ (ws : List (List ℕ)). IsLineOf c.args.run.now.outer.now.image ws (Some c.in-Ok-Some.own)) (ap (λ xs. map (λ s. string_bytes s) xs) c.as_slice.ensures.value)
    (subst (λ (o : Option Words). IsLineOf c.args.run.now.outer.now.image (map (λ s. string_bytes s) c.as_slice.result.now) o) c.in-Ok-Some.field-0-is c.in-Ok-Some.ensures.found))
    (c.obey_words.ensures.done stands)

pub returns-in-Ok-Some-clause-ended : goal.returns-in-Ok-Some-clause-ended
returns-in-Ok-Some-clause-ended g c = λ falls. (
  c.in-Ok-Some.own,
  (
    map (λ s. string_bytes s) c.in-Ok.words.items,
    c.in-Ok.ensures.words,
    subst (λ (ws : List (List ℕ)). IsLineOf c.args.run.now.outer.now.image ws (Some c.in-Ok-Some.own)) (ap (λ xs. map (λ s. string_bytes s) xs) c.as_slice.ensures.value)
        (subst (λ (o : Option Words). IsLineOf c.args.run.now.outer.now.image (map (λ s. string_bytes s) c.as_slice.result.now) o) c.in-Ok-Some.field-0-is c.in-Ok-Some.ensures.found),
  ),
  c.obey_words.ensures.ended falls,
)
