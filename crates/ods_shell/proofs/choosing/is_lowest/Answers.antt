use Rattle.std.proofs.Common.{rules, ◌≡◌, inl, inr, ◌<◌, ◌≤◌, refl, sym, ap, ◌∙◌, subst, Some, length, arith}
use Rattle.std.specs.Prelude.{slice_get}
use Rattle.std.proofs.lemmas.Bool.{cases_eq}
use Rattle.std.proofs.lemmas.Option.{slice_get_within, slice_get_read}
use Rattle.ods_base.specs.declared.listed.Listed.{Listed}
use Rattle.ods_shell.proofs.Bodies.{some_same}
use Rattle.ods_shell.proofs.OneName.{is_lowest, none_behind}
use Rattle.ods_shell.proofs.choosing.is_lowest.Goals as goal

pub returns-then-not-is_one_name : goal.returns-then-not-is_one_name
returns-then-not-is_one_name c =
    let x : Listed = c.index-lines-at.result in
    let inside : c.places.at < length c.args.lines.now = search rules in
    let here : slice_get c.args.lines.now c.places.at ≡ Some x = slice_get_read c.args.lines.now (length c.args.lines.now) c.places.at x refl inside c.index-lines-at.is in
    let edge : c.args.place < c.places.at = c.places.invariant.0 in
    is_lowest c.args.lines.now c.requires.sorted c.args.place c.args.line.now c.requires.there c.places.at c.places.invariant.1
    (none_behind c.args.lines.now c.requires.sorted c.args.place c.args.line.now c.requires.there c.places.at x here (omega arith) c.if-not-is_one_name.ensures)

pub places-preserved : goal.places-preserved
places-preserved c =
    let x : Listed = c.index-lines-at.result in
    let inside : c.places.at < length c.args.lines.now = search rules in
    let here : slice_get c.args.lines.now c.places.at ≡ Some x = slice_get_read c.args.lines.now (length c.args.lines.now) c.places.at x refl inside c.index-lines-at.is in
    let edge : c.args.place < c.places.at = c.places.invariant.0 in
    let high : c.args.line.now.version ≤ x.version = search rules in (
      omega arith,
      λ k o from to at_k. elim (cases_eq k c.places.at) [
        | inl same ↦ (
            let is : x ≡ o = some_same x o (sym here ∙ ap (slice_get c.args.lines.now) (sym same) ∙ at_k) in
            subst (λ (y : Listed). c.args.line.now.version ≤ y.version) is high)
        | inr other ↦ c.places.invariant.1 k o from (omega arith) at_k
      ],
    )

pub returns : goal.returns
returns c =
    let past : length c.args.lines.now ≤ c.places.at = search rules in
    is_lowest c.args.lines.now c.requires.sorted c.args.place c.args.line.now c.requires.there c.places.at c.places.invariant.1
    (λ k o low at_k one. let within : k < length c.args.lines.now = slice_get_within c.args.lines.now k o at_k in absurd (omega arith))
