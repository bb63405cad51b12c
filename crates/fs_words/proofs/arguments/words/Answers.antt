use Rattle.std.proofs.Common.{rules, ◌≡◌, Some}
use Rattle.clap.specs.Lexer.{usize_max}
use Rattle.fs_words.proofs.Listed.{some_is}
use Rattle.fs_words.proofs.arguments.words.Goals as goal

pub returns-clause-rule : goal.returns-clause-rule
returns-clause-rule c =
    let n : c.num_args.result.num_vals ≡ Some (record { start_inclusive = c.args.least; end_inclusive = usize_max }) = some_is c.num_args.result.num_vals (record { start_inclusive = c.args.least; end_inclusive = usize_max }) c.num_args.ensures.1 in
    search (rules, n)
