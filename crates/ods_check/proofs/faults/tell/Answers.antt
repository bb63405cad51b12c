use Rattle.std.proofs.Common.{◌≡◌, ◌≤◌, List, [], ◌∷◌, length, take, refl, sym, ap, ◌∙◌, subst, arith, ◌++◌}
use Rattle.std.proofs.lemmas.Bool.Decides.{when_true, when_false}
use Rattle.std.proofs.lemmas.List.{take_all}
use Rattle.std.proofs.lemmas.List.Elements.{All-nil, All-cons}
use Rattle.std.proofs.lemmas.Option.{slice_get_within, get_or_from_slice_get}
use Rattle.std.proofs.Math.Seq.{take-nil}
use Rattle.std.specs.List.{Contains}
use Rattle.ods_check.specs.Lists.{AreDistinct}
use Rattle.ods_check.specs.declared.fault_line.FaultLine.{FaultLine}
use Rattle.ods_check.specs.declared.fault_line.FaultLine.TheVariants.{Plain}
use Rattle.ods_check.proofs.Adding.{told_one, some_told}
use Rattle.ods_check.proofs.Turning.{at_place, distinct_one, distinct_append}
use Rattle.ods_check.proofs.faults.tell.Goals as goal

pub returns-then-is_full-clause-some : goal.returns-then-is_full-clause-some
returns-then-is_full-clause-some c none =
    let full = when_true _ _ c.if-is_full.true c.is_full.ensures in
    let some = c.requires in
    let size : length c.args.faults.now.0 ≡ 0 = ap length none in
    omega arith

pub returns-then-is_told-clause-some : goal.returns-then-is_told-clause-some
returns-then-is_told-clause-some c none = when_true _ _ c.if-is_told.true c.is_told.ensures (c.kept_lines.ensures ∙ ap (take c.args.faults.now.1) none ∙ take-nil c.args.faults.now.1)

pub returns-clause-some : goal.returns-clause-some
returns-clause-some c = some_told c.push.new.self.0 (Plain c.args.known) (told_one _ _ (Plain c.args.known) c.in_ok-push.ensures)

pub returns-clause-most : goal.returns-clause-most
returns-clause-most c = ap (λ l. l.1) c.in_ok-push.ensures

pub returns-clause-once : goal.returns-clause-once
returns-clause-once c once =
    let x = Plain c.args.known in
    let xs = c.args.faults.now.0 in
    let most = c.args.faults.now.1 in
    let room : ¬ (most ≤ length xs) = when_false _ _ c.if-is_full.false c.is_full.ensures in
    let all : take most xs ≡ xs = take_all most xs (omega (arith, room)) in
    let P : List FaultLine → Type 0 = λ l. ¬ Contains l x in
    let absent : P xs = subst P (c.kept_lines.ensures ∙ all) (when_false _ _ c.if-is_told.false c.is_told.ensures) in
    let apart : AreDistinct (xs ++ x ∷ []) = distinct_append xs (x ∷ []) once (distinct_one x) (λ i j y at also.
    let Q : FaultLine → Type 0 = λ z. z ≡ x in
    let is : y ≡ x = at_place Q (x ∷ []) j y (All-cons Q x [] refl (All-nil Q)) also in
    let R : FaultLine → Type 0 = λ z. Contains xs z in
    let here : Contains xs y = (i, slice_get_within xs i y at, get_or_from_slice_get xs i y y at) in
    absent (subst R is here)) in
    subst AreDistinct (sym (ap (λ l. l.0) c.in_ok-push.ensures)) apart
