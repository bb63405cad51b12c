use Rattle.std.proofs.Common.{◌≡◌, ◌++◌, refl, sym, ap, ◌∙◌, [], ◌∷◌, length, reverse, take, append_assoc, Some}
use Rattle.std.specs.List.{slice_get}
use Rattle.std.proofs.lemmas.Bool.{ltb-true, ltb-false}
use Rattle.std.proofs.lemmas.List.{reverse-append, append-nil}
use Rattle.std.proofs.lemmas.Option.{slice_get_read}
use Rattle.ods_walk.specs.Paths.{led_by, path_to}
use Rattle.ods_walk.proofs.Ways.{way_to, not_led, no_way}
use Rattle.ods_walk.proofs.tables.push_way.Goals as goal
use Rattle.ods_walk.proofs.tables.push_way.Goals.{In-Some}

-- where the directory at hand is got
found : (c : In-Some) → slice_get c.loop-entered.before.now c.loop-entered.at ≡ Some c.in-Some.entered.now
found c = slice_get_read c.loop-entered.before.now (length c.loop-entered.before.now) c.loop-entered.at c.in-Some.entered.now refl (ltb-true c.loop-entered.at (length c.loop-entered.before.now) (sym c.in-Some.ensures.lookup.0)) c.in-Some.ensures.lookup.1

pub returns-in_default-from : goal.returns-in_default-from
returns-in_default-from c =
    let way = way_to c.loop-entered.before.now c.loop-entered.at c.in-Some.entered.now (found (goal.at.returns-in_default-from c).In-Some) ∙ not_led _ c.in-Some.entered.now.from c.in_default-from.not-Some in
    sym (append-nil c.loop-entered.names.items) ∙ ap (λ w. c.loop-entered.names.items ++ reverse w) (sym way) ∙ c.loop-entered.invariant

pub loop-entered-preserved : goal.loop-entered-preserved
loop-entered-preserved c =
    let before = take c.loop-entered.at c.loop-entered.before.now in
    let rest = path_to before c.in-Some-from.from in
    let way : path_to c.loop-entered.before.now c.loop-entered.at ≡ rest ++ c.in-Some-from.name ∷ [] =
    way_to c.loop-entered.before.now c.loop-entered.at c.in-Some.entered.now (found (goal.at.loop-entered-preserved c).In-Some) ∙ ap (led_by (λ at. path_to before at)) c.in-Some-from.is in
    ap (λ l. l ++ reverse rest) c.in_ok-push.ensures.items ∙ append_assoc c.loop-entered.names.items (c.in-Some-from.name ∷ []) (reverse rest)
    ∙ ap (λ w. c.loop-entered.names.items ++ w) (sym (reverse-append rest (c.in-Some-from.name ∷ [])))
    ∙ ap (λ w. c.loop-entered.names.items ++ reverse w) (sym way) ∙ c.loop-entered.invariant

pub returns : goal.returns
returns c =
    let way = no_way c.loop-entered.before.now c.loop-entered.at (ltb-false c.loop-entered.at (length c.loop-entered.before.now) (sym c.in_default.ensures.lookup.0)) in
    sym (append-nil c.loop-entered.names.items) ∙ ap (λ w. c.loop-entered.names.items ++ reverse w) (sym way) ∙ c.loop-entered.invariant
