use Rattle.std.proofs.Common.{rules}
use Rattle.clap.specs.Simple.{app_of}
use Rattle.clap.specs.Walk.{rule_of}
use Rattle.fs_words.specs.Rules.{choice_rule}
use Rattle.fs_words.proofs.Listed.{no_rules, rule_more, rules_all}
use Rattle.fs_words.proofs.parse.with_options.Goals as goal

pub loop-choice-init : goal.loop-choice-init
loop-choice-init c = no_rules (app_of c.args.command)

pub loop-choice-preserved : goal.loop-choice-preserved
loop-choice-preserved c =
    rule_more choice_rule c.args.choices.now c.loop-choice.choice-index _ (app_of c.args.command) (app_of c.loop-choice.command) (app_of c.in_ok-command.command) (rule_of c.arg.result) (search rules) c.loop-choice.invariant (c.in_ok-command.ensures.shape c.arg.ensures.local) c.arg.ensures.rule

pub returns : goal.returns
returns c =
    rules_all choice_rule c.args.choices.now c.loop-choice.choice-index (app_of c.args.command) (app_of c.loop-choice.command) (search rules) c.loop-choice.invariant
