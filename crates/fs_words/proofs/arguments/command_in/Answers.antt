use Rattle.std.proofs.Common.{rules}
use Rattle.clap.specs.Simple.{app_of, new_app}
use Rattle.fs_words.specs.Rules.{rule_in}
use Rattle.clap.specs.Walk.{rule_of}
use Rattle.fs_words.proofs.Listed.{rule_more, rules_all}
use Rattle.fs_words.proofs.arguments.command_in.Goals as goal

pub loop-argument-preserved : goal.loop-argument-preserved
loop-argument-preserved c =
    rule_more (rule_in c.args.row.now.conflicts.now) c.args.row.now.arguments.now c.loop-argument.argument-index _ (new_app c.args.name.now) (app_of c.loop-argument.command) (app_of c.in_ok-command.command) (rule_of c.in_ok-argument_in.field-0) (search rules) c.loop-argument.invariant (c.in_ok-command.ensures.shape c.in_ok-argument_in.ensures.local) c.in_ok-argument_in.ensures.rule

pub returns : goal.returns
returns c =
    rules_all (rule_in c.args.row.now.conflicts.now) c.args.row.now.arguments.now c.loop-argument.argument-index (new_app c.args.name.now) (app_of c.loop-argument.command) (search rules) c.loop-argument.invariant
