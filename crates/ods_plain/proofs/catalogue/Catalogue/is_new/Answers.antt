use Rattle.std.proofs.Common.{◌≡◌, true, false, sym, ap, ◌∙◌, arith, ◌≤◌}
use Rattle.std.specs.Prelude.{◌==◌, nat_le}
use Rattle.std.specs.List.{list_any}
use Rattle.std.specs.FinSet as set
use Rattle.std.proofs.lemmas.Bool.{le-leb}
use Rattle.ods_request.specs.Equal.{same_id}
use Rattle.ods_request.specs.Steps.{is_used}
use Rattle.ods_plain.proofs.RowLists.{new_by, past_test, used_test, small_enough}
use Rattle.ods_plain.proofs.catalogue.Catalogue.is_new.Goals as goal
use Rattle.ods_plain.proofs.catalogue.Catalogue.is_new.Goals.{After-contains, After-is_used}

given : (c : After-contains) → set.contains c.args.self.now.past c.args.id ≡ c.contains.result
given c =
    past_test c.self.inside.rows.items c.self.inside.past.items c.self.inside.default c.args.self.now c.args.id c.self.view_is
    ∙ ap (list_any (λ x. same_id x c.args.id)) (sym c.as_slice.ensures.value) ∙ sym c.contains.ensures.value

used : (c : After-is_used) → is_used c.args.self.now c.args.id.number ≡ c.is_used.result
used c =
    used_test c.self.inside.rows.items c.self.inside.past.items c.self.inside.default c.args.self.now c.args.id.number c.self.view_is
    ∙ ap (list_any (λ r. r.0.number == c.args.id.number)) (sym c.as_slice-2.ensures.value) ∙ sym c.is_used.ensures

pub returns-then-contains : goal.returns-then-contains
returns-then-contains c =
    let at = goal.at.returns-then-contains c in
    sym (new_by c.args.self.now c.args.id true (is_used c.args.self.now c.args.id.number) (given at.After-contains ∙ c.if-contains.true) (λ i. is_used c.args.self.now c.args.id.number))

pub returns-then-is_used : goal.returns-then-is_used
returns-then-is_used c =
    let at = goal.at.returns-then-is_used c in
    sym (new_by c.args.self.now c.args.id false true (given at.After-contains ∙ c.if-contains.false) (used at.After-is_used ∙ c.if-is_used.true))

pub returns : goal.returns
returns c =
    let at = goal.at.returns c in
    let fits : c.args.id.number ≤ 65535 = omega arith in
    small_enough (nat_le 6 c.args.id.number) (nat_le c.args.id.number 65535) (le-leb c.args.id.number 65535 fits)
    ∙ sym (new_by c.args.self.now c.args.id false false (given at.After-contains ∙ c.if-contains.false) (used at.After-is_used ∙ c.if-is_used.false))
