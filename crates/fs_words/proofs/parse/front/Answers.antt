use Rattle.std.proofs.Common.{rules, ◌≡◌, ◌∙◌, ap, ap₂, map}
use Rattle.clap.specs.Simple.{App, app_of, with_rule}
use Rattle.clap.specs.Walk.{rule_of}
use Rattle.fs_words.specs.Options.{options}
use Rattle.fs_words.specs.Rules.{bare_app, choice_rule, file_rule, front_app, image_rules, with_rules}
use Rattle.fs_words.proofs.parse.front.Goals as goal

pub returns : goal.returns
unfolding front_app
returns c =
    let bare : app_of c.disable_help_subcommand-command.result ≡ bare_app = search rules in
    let file : rule_of c.help-file.result ≡ file_rule = search rules in
    let imaged : app_of c.in_ok-command.command ≡ with_rules (image_rules c.args.has_image) bare_app = c.in_ok-command.ensures ∙ ap (with_rules (image_rules c.args.has_image)) bare in
    let filed : app_of c.in_ok-command-2.command ≡ with_rule (with_rules (image_rules c.args.has_image) bare_app) file_rule = c.in_ok-command-2.ensures.shape (search rules) ∙ ap₂ with_rule imaged file in
    c.in_ok-command-3.ensures ∙ ap (λ (a : App). with_rules (map choice_rule options) a) filed
