use Rattle.std.proofs.Common.{◌∙◌, ap, sym, arith, Some, take, ℕ, ◌+◌, List}
use Rattle.std.proofs.lemmas.List.{take_rest}
use Rattle.ods_text.specs.Cuts.{is}
use Rattle.ods_text.proofs.Firsts.{first_is, front_is, back_is}
use Rattle.ods_text.proofs.Places.{cut_there, cut_nowhere}
use Rattle.ods_text.proofs.cuts.cut_at.Goals as goal

pub returns-then-place-text-clause-place : goal.returns-then-place-text-clause-place
returns-then-place-text-clause-place c = first_is (is c.args.byte) c.args.text.now c.place_of-place.result c.place_of-place.ensures ∙ c.if-place-text.true

pub returns-then-place-text-clause-cut : goal.returns-then-place-text-clause-cut
returns-then-place-text-clause-cut c = cut_nowhere c.args.byte c.args.text.now c.place_of-place.result c.place_of-place.ensures c.if-place-text.true

pub returns-clause-place : goal.returns-clause-place
returns-clause-place c = (
  omega (arith, first_is (is c.args.byte) c.args.text.now c.place_of-place.result c.place_of-place.ensures, c.place_of-place.ensures.within),
  front_is (is c.args.byte) c.args.text.now c.place_of-place.result c.place_of-place.ensures,
  back_is (is c.args.byte) c.args.text.now c.place_of-place.result c.place_of-place.ensures,
)

pub returns-clause-cut : goal.returns-clause-cut
returns-clause-cut c =
    cut_there c.args.byte c.args.text.now c.place_of-place.result c.place_of-place.ensures (omega arith)
    ∙ ap (λ (b : List ℕ). Some (take c.place_of-place.result c.args.text.now, b)) (sym (take_rest c.args.text.now (c.place_of-place.result + 1)))
