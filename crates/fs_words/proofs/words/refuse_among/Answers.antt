use Rattle.std.proofs.Common.{rules, List, subst}
use Rattle.std.specs.Prelude.{All}
use Rattle.std.proofs.lemmas.List.{take_all}
use Rattle.std.proofs.lemmas.List.Elements.{All-more}
use Rattle.fs_words.specs.declared.options.Choice.{Choice}
use Rattle.fs_words.specs.Found.{ServesWhereSaid}
use Rattle.fs_words.proofs.words.refuse_among.Goals as goal

pub loop-choice-preserved : goal.loop-choice-preserved
loop-choice-preserved c =
    All-more (ServesWhereSaid c.args.said.now c.args.verb) c.args.choices.now c.loop-choice.choice-index _ (search rules) c.loop-choice.invariant c.in_ok-refuse_where_idle.ensures.serves

pub returns-clause-serves : goal.returns-clause-serves
returns-clause-serves c =
    subst (λ (xs : List Choice). All (ServesWhereSaid c.args.said.now c.args.verb) xs) (take_all c.loop-choice.choice-index c.args.choices.now (search rules)) c.loop-choice.invariant
