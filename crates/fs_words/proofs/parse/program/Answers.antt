use Rattle.std.proofs.Common.{rules, ◌≡◌, ◌∙◌, ap₂, Some}
use Rattle.clap.specs.Lexer.{usize_max}
use Rattle.clap.specs.Simple.{with_rule}
use Rattle.clap.specs.Walk.{rule_of}
use Rattle.fs_words.specs.Rules.{program_app, rest_rule}
use Rattle.fs_words.proofs.Listed.{some_is}
use Rattle.fs_words.proofs.parse.program.Goals as goal

pub returns : goal.returns
unfolding program_app
returns c =
    let n : c.num_args.result.num_vals ≡ Some (record { start_inclusive = 0; end_inclusive = usize_max }) = some_is c.num_args.result.num_vals (record { start_inclusive = 0; end_inclusive = usize_max }) c.num_args.ensures.1 in
    let r : rule_of c.hide-rest.result ≡ rest_rule = search (rules, n) in
    c.in_ok-command.ensures.shape (search rules) ∙ ap₂ with_rule c.in_ok-front.ensures r
