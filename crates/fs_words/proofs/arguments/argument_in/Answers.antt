use Rattle.std.proofs.Common.{rules, ◌≡◌, ◌∙◌, ap, [], map, ◌++◌}
use Rattle.clap.specs.Simple.{new_rule}
use Rattle.clap.specs.Walk.{rule_of}
use Rattle.fs_words.specs.Rules.{name_of, others}
use Rattle.fs_words.proofs.Listed.{free_of}
use Rattle.fs_words.proofs.arguments.argument_in.Goals as goal

pub returns-clause-rule : goal.returns-clause-rule
returns-clause-rule c =
    let named : rule_of c.new.result ≡ new_rule (name_of c.args.argument.now) = c.new.ensures.rule ∙ ap new_rule c.name_in-id.ensures in
    let none : c.new.result.conflicts.items ≡ [] = search rules in
    let kept : c.of_kind-arg.result.conflicts.items ≡ [] = ap (λ a. a.conflicts.items) c.of_kind-arg.ensures.same ∙ none in
    let apart : map (λ s. s.now) c.in_ok-arg.arg.conflicts.items ≡ others (name_of c.args.argument.now) c.args.conflicts.now = rw (← c.name_in-id.ensures) (c.in_ok-arg.ensures.apart ∙ ap (λ xs. map (λ s. s.now) xs ++ others c.name_in-id.result.now c.args.conflicts.now) kept) in
    free_of c.new.result c.of_kind-arg.result c.in_ok-arg.arg c.args.argument.now c.args.conflicts.now named none c.of_kind-arg.ensures.rule c.of_kind-arg.ensures.same c.in_ok-arg.ensures.same apart

pub returns-clause-apart : goal.returns-clause-apart
returns-clause-apart c =
    let none : c.new.result.conflicts.items ≡ [] = search rules in
    let kept : c.of_kind-arg.result.conflicts.items ≡ [] = ap (λ a. a.conflicts.items) c.of_kind-arg.ensures.same ∙ none in
    rw (← c.name_in-id.ensures) (c.in_ok-arg.ensures.apart ∙ ap (λ xs. map (λ s. s.now) xs ++ others c.name_in-id.result.now c.args.conflicts.now) kept)
