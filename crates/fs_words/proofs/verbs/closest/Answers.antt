use Rattle.std.proofs.Common.{rules, List, subst, sym, take}
use Rattle.std.proofs.lemmas.List.{take_all, take_more}
use Rattle.fs_words.specs.declared.verbs.Verb.{Verb}
use Rattle.fs_words.specs.Hints.{IsClosest}
use Rattle.fs_words.proofs.verbs.closest.Goals as goal

pub loop-verb-preserved : goal.loop-verb-preserved
loop-verb-preserved c =
    subst (λ (vs : List Verb). IsClosest c.args.word.now vs c.in_ok-found.found) (sym (take_more c.args.verbs.now c.loop-verb.verb-index _ (search rules))) (c.in_ok-found.ensures (take c.loop-verb.verb-index c.args.verbs.now) c.loop-verb.invariant)

pub returns : goal.returns
returns c =
    subst (λ (vs : List Verb). IsClosest c.args.word.now vs c.loop-verb.found) (take_all c.loop-verb.verb-index c.args.verbs.now (search rules)) c.loop-verb.invariant
