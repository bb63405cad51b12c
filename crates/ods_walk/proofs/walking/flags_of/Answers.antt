use Rattle.std.proofs.Common.{rules, ◌≡◌, ◌<◌, refl, ◌∙◌, sym, ap, subst, false, [], ◌∷◌, ◌++◌, append-nil, append_assoc}
use Rattle.std.specs.Prelude.{replicate}
use Rattle.std.proofs.lemmas.List.{nil_from_length}
use Rattle.ods_walk.specs.Steps.{AreEntered}
use Rattle.ods_walk.proofs.Flagged.{entered_more, entered_none}
use Rattle.ods_walk.proofs.walking.flags_of.Goals as goal

pub numbers-init : goal.numbers-init
numbers-init c =
    let clear : c.in_ok-flags.flags.items ≡ replicate 65536 false = c.in_ok-flags.ensures.items_if_clones_equal (λ y same. same) in
    ([], sym (append-nil c.args.numbers.now), entered_none c.in_ok-flags.flags.items 65536 clear refl)

pub numbers-preserved : goal.numbers-preserved
numbers-preserved c =
    let inv = c.numbers.invariant in
    let last = c.in-Some.last.now in
    let small : last < 65536 = search rules in (
      last ∷ inv.0,
      inv.1 ∙ ap (λ l. l ++ inv.0) c.in-Some.ensures.cases.0 ∙ append_assoc c.in-Some.before.now (last ∷ []) inv.0,
      entered_more c.numbers.flags.items inv.0 last small inv.2,
    )

pub returns : goal.returns
returns c =
    let inv = c.numbers.invariant in
    let nothing : c.numbers.left.now ≡ [] = nil_from_length c.numbers.left.now c.in_default.ensures.cases in
    subst (AreEntered c.numbers.flags.items) (sym (inv.1 ∙ ap (λ l. l ++ inv.0) nothing)) inv.2
