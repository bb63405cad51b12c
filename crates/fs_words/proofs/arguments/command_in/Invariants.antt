-- The arguments so far are added.
use Rattle.std.proofs.Common.{◌≡◌, map, take}
use Rattle.clap.specs.Simple.{app_of, new_app}
use Rattle.fs_words.specs.Rules.{rule_in, with_rules}
use Rattle.fs_words.proofs.arguments.command_in.Given as goal

abbrev pub invariant-loop-argument : goal.invariant-loop-argument
invariant-loop-argument l = app_of l.command ≡ with_rules (map (rule_in l.row.conflicts.now) (take l.argument-index l.row.arguments.now)) (new_app l.fn.name)
