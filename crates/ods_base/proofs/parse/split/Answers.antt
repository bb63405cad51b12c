use Rattle.std.proofs.Common.{ℕ, ◌+◌, ◌-◌, ◌∙◌, List, length, take, drop, sym, subst, arith}
use Rattle.std.proofs.lemmas.List.{take_rest}
use Rattle.ods_base.specs.NameParts.{FallsInto}
use Rattle.ods_base.proofs.NameCuts.{has_dot, cut, cut_once}
use Rattle.ods_base.proofs.parse.split.Goals as goal

pub returns-then-dot-text-clause-only : goal.returns-then-dot-text-clause-only
returns-then-dot-text-clause-only c = λ name ext behind falls.
    absurd (omega (arith, (has_dot c.args.text.now name ext behind c.place_of-dot.result falls c.place_of-dot.ensures).1))

pub returns-clause-ok : goal.returns-clause-ok
returns-clause-ok c =
    let text = c.args.text.now in
    let dot = c.place_of-dot.result in
    let end = c.place_of-end.result in
    let rest = take (length text - (dot + 1)) (drop (dot + 1) text) in
    subst (λ (b : List ℕ). FallsInto text (take dot text) (take end rest) b) (sym (take_rest rest end)) (cut text rest dot end (take_rest text (dot + 1)) (omega arith) c.place_of-dot.ensures c.place_of-end.ensures)

pub returns-clause-only : goal.returns-clause-only
returns-clause-only c = λ name ext behind falls.
    let text = c.args.text.now in
    let dot = c.place_of-dot.result in
    let end = c.place_of-end.result in
    let rest = take (length text - (dot + 1)) (drop (dot + 1) text) in
    let once = cut_once text rest name ext behind dot end (take_rest text (dot + 1)) c.place_of-dot.ensures c.place_of-end.ensures falls in
    (once.0, once.1, take_rest rest end ∙ once.2)
