use Rattle.std.proofs.Common.{◌≡◌, ◌≤◌, List, ℕ, length, refl, sym, ap, subst, ◌∙◌, arith, true}
use Rattle.std.specs.List.{list_all}
use Rattle.std.specs.Prelude.{IsTrue, slice_set}
use Rattle.ods_init.specs.Label.{is_label_character, is_label_text, label_of}
use Rattle.ods_init.proofs.LabelMade.{none_made, one_more_made, all_made, label_made, text_is_good}
use Rattle.ods_init.proofs.label.Label.parse.Goals as goal

pub loop-i-init : goal.loop-i-init
loop-i-init c = none_made _ _ refl

pub loop-i-preserved : goal.loop-i-preserved
loop-i-preserved c =
    one_more_made c.as_bytes-given.result.now c.loop-i.own _ c.loop-i.i (ap (λ (x : ℕ). slice_set c.loop-i.own c.loop-i.i x) c.to_ascii_uppercase.ensures.value)
    (omega (arith, c.loop-i-test.true, c.if-count-gt12.false)) c.loop-i.invariant

pub invariant_of-result : goal.invariant_of-result
invariant_of-result c =
    let some : 1 ≤ length c.as_bytes-given.result.now = omega (arith, c.if-count-eq0.false) in
    let good : list_all is_label_character c.as_bytes-given.result.now ≡ true = sym c.are_label_characters.ensures ∙ c.if-not-are_label_characters.false in
    label_made c.as_bytes-given.result.now c.loop-i.own c.loop-i.i (omega (arith, c.loop-i-test.false)) (omega (arith, c.loop-i.auto.i-end)) some (omega (arith, c.if-count-gt12.false)) good c.loop-i.invariant

pub returns : goal.returns
returns c =
    let some : 1 ≤ length c.as_bytes-given.result.now = omega (arith, c.if-count-eq0.false) in
    let good : list_all is_label_character c.as_bytes-given.result.now ≡ true = sym c.are_label_characters.ensures ∙ c.if-not-are_label_characters.false in
    let few : length c.as_bytes-given.result.now ≤ 12 = omega (arith, c.if-count-gt12.false) in
    subst (λ (t : List ℕ). IsTrue (is_label_text t) × (c.loop-i.own ≡ label_of t)) c.as_bytes-given.ensures.value
    (text_is_good c.as_bytes-given.result.now some few good, all_made c.as_bytes-given.result.now c.loop-i.own c.loop-i.i (omega (arith, c.loop-i-test.false)) (omega (arith, c.loop-i.auto.i-end)) few c.loop-i.invariant)
