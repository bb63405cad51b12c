use Rattle.std.proofs.Common.{rules}
use Rattle.fs_words.proofs.Listed.{cut, uncut}
use Rattle.fs_words.proofs.arguments.with_spelling.Goals as goal

pub returns-in-Some-clause-rule : goal.returns-in-Some-clause-rule
returns-in-Some-clause-rule c =
    let e = cut c.args.option.now c.in-Some.word.now c.in-Some.ensures.cases in
    rw e.0 (search (rules, e.1))

pub returns-in-None-clause-rule : goal.returns-in-None-clause-rule
returns-in-None-clause-rule c =
    let e = uncut c.args.option.now c.in-None.ensures.cases in
    rw e (search rules)
