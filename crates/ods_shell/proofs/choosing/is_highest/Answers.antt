use Rattle.std.proofs.Common.{rules, ◌≡◌, inl, inr, ◌-◌, ◌<◌, ◌≤◌, refl, sym, ap, ◌∙◌, subst, Some, length, arith}
use Rattle.std.specs.Prelude.{slice_get}
use Rattle.std.proofs.lemmas.Bool.{cases_eq}
use Rattle.std.proofs.lemmas.Option.{slice_get_read, slice_get_within}
use Rattle.ods_base.specs.declared.listed.Listed.{Listed}
use Rattle.ods_shell.proofs.Bodies.{some_same}
use Rattle.ods_shell.proofs.OneName.{is_highest, none_before, placed_in}
use Rattle.ods_shell.proofs.choosing.is_highest.Goals as goal

pub returns-then-not-is_one_name : goal.returns-then-not-is_one_name
returns-then-not-is_one_name c =
    let x : Listed = c.index-lines-at.result in
    let bound : c.args.place < length c.args.lines.now = slice_get_within c.args.lines.now c.args.place c.args.line.now c.requires.there in
    let low_edge : c.places.at ≤ c.args.place = c.places.invariant.0 in
    let some : 0 < c.places.at = search rules in
    let inside : c.places.at - 1 < length c.args.lines.now = omega arith in
    let here : slice_get c.args.lines.now (c.places.at - 1) ≡ Some x = slice_get_read c.args.lines.now (length c.args.lines.now) (c.places.at - 1) x refl inside c.index-lines-at.is in
    let edge : c.places.at ≤ c.args.place = c.places.invariant.0 in
    is_highest c.args.lines.now c.requires.sorted c.args.place c.args.line.now c.requires.there c.places.at c.places.invariant.1
    (λ k o small at_k one. none_before c.args.lines.now c.requires.sorted c.args.place c.args.line.now c.requires.there (c.places.at - 1) x here (omega arith) c.if-not-is_one_name.ensures k o (omega arith) at_k one)

pub returns-then-line-other : goal.returns-then-line-other
returns-then-line-other c = λ picked.
    let x : Listed = c.index-lines-at.result in
    let bound : c.args.place < length c.args.lines.now = slice_get_within c.args.lines.now c.args.place c.args.line.now c.requires.there in
    let low_edge : c.places.at ≤ c.args.place = c.places.invariant.0 in
    let some : 0 < c.places.at = search rules in
    let inside : c.places.at - 1 < length c.args.lines.now = omega arith in
    let here : slice_get c.args.lines.now (c.places.at - 1) ≡ Some x = slice_get_read c.args.lines.now (length c.args.lines.now) (c.places.at - 1) x refl inside c.index-lines-at.is in
    let low : x.version ≤ c.args.line.now.version = picked x (placed_in c.args.lines.now (c.places.at - 1) x here) c.if-not-is_one_name.ensures in
    let high : c.args.line.now.version < x.version = search rules in
    absurd (omega arith)

pub places-preserved : goal.places-preserved
places-preserved c =
    let x : Listed = c.index-lines-at.result in
    let bound : c.args.place < length c.args.lines.now = slice_get_within c.args.lines.now c.args.place c.args.line.now c.requires.there in
    let low_edge : c.places.at ≤ c.args.place = c.places.invariant.0 in
    let some : 0 < c.places.at = search rules in
    let inside : c.places.at - 1 < length c.args.lines.now = omega arith in
    let here : slice_get c.args.lines.now (c.places.at - 1) ≡ Some x = slice_get_read c.args.lines.now (length c.args.lines.now) (c.places.at - 1) x refl inside c.index-lines-at.is in
    let edge : c.places.at ≤ c.args.place = c.places.invariant.0 in
    let low : x.version ≤ c.args.line.now.version = search rules in (
      omega arith,
      λ k o from to at_k. elim (cases_eq k (c.places.at - 1)) [
        | inl same ↦ (
            let is : x ≡ o = some_same x o (sym here ∙ ap (slice_get c.args.lines.now) (sym same) ∙ at_k) in
            subst (λ (y : Listed). y.version ≤ c.args.line.now.version) is low)
        | inr other ↦ c.places.invariant.1 k o (omega arith) to at_k
      ],
    )

pub returns : goal.returns
returns c =
    let none : c.places.at ≤ 0 = search rules in
    is_highest c.args.lines.now c.requires.sorted c.args.place c.args.line.now c.requires.there c.places.at c.places.invariant.1 (λ k o small at_k one. absurd (omega arith))
