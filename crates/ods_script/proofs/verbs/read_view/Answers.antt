use Rattle.std.proofs.Common.{refl, subst, sym, rules}
use Rattle.ods_ask.specs.declared.script.Action.TheVariants as action
use Rattle.ods_ask.specs.declared.script.Look.TheVariants as look
use Rattle.ods_text.specs.Cuts.{IsPair}
use Rattle.ods_text.specs.Numbers.{IsNumber}
use Rattle.ods_text.specs.One.{IsTheOne}
use Rattle.ods_script.specs.Spelling.{IsId}
use Rattle.ods_script.specs.Naming.{IsWantedName}
use Rattle.ods_script.specs.Commands.{Viewed}
use Rattle.ods_script.specs.Said.{said}
use Rattle.ods_script.specs.Spoken as spoken
use Rattle.ods_script.specs.declared.verbs.Verb.{Verb}
use Rattle.ods_script.proofs.Meaning.{the_meaning}
use Rattle.ods_script.proofs.VerbWords.{no_words, the_words}
use Rattle.ods_script.proofs.verbs.read_view.Goals as goal

pub returns-in_default : goal.returns-in_default
returns-in_default c = no_words Viewed c.args.text.now c.in_default.ensures

pub returns-in-LookUp : goal.returns-in-LookUp
returns-in-LookUp c =
    the_words Viewed c.args.text.now c.in-Some.args.now c.in-Some.verb (said c.map_or.result) c.in-Some.ensures
    (subst (λ (v : Verb). IsTheOne (Viewed v c.in-Some.args.now) (said c.map_or.result)) (sym c.in-LookUp.is)
    (the_meaning (IsPair 32 IsId IsWantedName) (λ x. spoken.View (look.LookUp x.0 x.1.name x.1.version)) (λ x. action.View (look.LookUp x.0 x.1.name x.1.version)) c.in-Some.args.now c.read.result c.map_or.result (λ x. refl) (λ x p. search rules) c.read.ensures c.map_or.ensures))

pub returns-in-Read : goal.returns-in-Read
returns-in-Read c =
    the_words Viewed c.args.text.now c.in-Some.args.now c.in-Some.verb (said c.map_or-in-Read.result) c.in-Some.ensures
    (subst (λ (v : Verb). IsTheOne (Viewed v c.in-Some.args.now) (said c.map_or-in-Read.result)) (sym c.in-Read.is)
    (the_meaning (IsPair 32 IsId IsNumber) (λ x. spoken.View (look.Read x.0 x.1)) (λ x. action.View (look.Read x.0 x.1)) c.in-Some.args.now c.read-in-Read.result c.map_or-in-Read.result (λ x. refl) (λ x p. search rules) c.read-in-Read.ensures c.map_or-in-Read.ensures))
