use Rattle.std.proofs.lemmas.Bool.{ne_eqb}
use Rattle.ods_paths.specs.Views.{said}
use Rattle.ods_paths.proofs.PathTexts.{in_nothing, in_slashes, of_bracket}
use Rattle.ods_paths.proofs.paths.parse_here.Goals as goal

pub returns-in_default : goal.returns-in_default
returns-in_default c = in_nothing said c.args.text.now c.parse_slashed.result c.in_default.ensures.cases c.parse_slashed.ensures

pub returns-then-first-eq91 : goal.returns-then-first-eq91
returns-then-first-eq91 c = of_bracket said c.args.text.now c.in-Some.first.now c.in-Some.rest.now c.parse_bracketed.result c.in-Some.ensures.cases.0 c.if-first-eq91.true c.parse_bracketed.ensures

pub returns : goal.returns
returns c =
    in_slashes said c.args.text.now c.in-Some.first.now c.in-Some.rest.now c.past_slash.result.now c.parse_slashed-2.result c.in-Some.ensures.cases.0
    (ne_eqb c.in-Some.first.now 35 c.if-first-eq35.false) (ne_eqb c.in-Some.first.now 64 c.if-first-eq64.false) (ne_eqb c.in-Some.first.now 91 c.if-first-eq91.false) c.past_slash.ensures c.parse_slashed-2.ensures
