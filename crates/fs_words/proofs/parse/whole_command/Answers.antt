use Rattle.std.proofs.Common.{rules, ◌≡◌, ◌∙◌, ap, map, true}
use Rattle.clap.specs.Simple.{App, Shape, app_of, on_top}
use Rattle.fs_words.specs.Options.{options}
use Rattle.fs_words.specs.Rules.{choice_rule, command_app, whole_app, with_rules}
use Rattle.fs_words.proofs.parse.whole_command.Goals as goal

pub returns : goal.returns
unfolding whole_app
returns c =
    let named : app_of c.no_binary_name-command.result ≡ on_top (λ (s : Shape). record s { no_binary_name = true }) (command_app c.args.verb) = search rules in
    c.in_ok-command.ensures ∙ ap (λ (a : App). with_rules (map choice_rule options) a) named
