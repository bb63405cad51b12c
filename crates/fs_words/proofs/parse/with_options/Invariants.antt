-- The options so far are added.
use Rattle.std.proofs.Common.{◌≡◌, map, take}
use Rattle.clap.specs.Simple.{app_of}
use Rattle.fs_words.specs.Rules.{choice_rule, with_rules}
use Rattle.fs_words.proofs.parse.with_options.Given as goal

abbrev pub invariant-loop-choice : goal.invariant-loop-choice
invariant-loop-choice l = app_of l.command ≡ with_rules (map choice_rule (take l.choice-index l.choices)) (app_of l.initial.command)
