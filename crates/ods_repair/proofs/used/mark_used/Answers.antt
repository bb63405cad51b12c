use Rattle.std.proofs.Common.{◌≡◌, ℕ, ◌∙◌, List, [], ◌∷◌, false, length, refl, ap, sym, subst, arith}
use Rattle.std.specs.List.{Contains}
use Rattle.ods_alloc.specs.Marks.{MarksBlocks}
use Rattle.ods_repair.specs.Used.{AreUsed}
use Rattle.ods_repair.proofs.UsedLaw.{are_used, none_used}
use Rattle.ods_repair.proofs.used.mark_used.Goals as goal

-- a list of no length has nothing
none_in : (xs : List ℕ) → length xs ≡ 0 → xs ≡ []
none_in [] none = refl
none_in (x ∷ xs) none = absurd (omega (arith, none))

pub returns-then-len-eq0-clause-used : goal.returns-then-len-eq0-clause-used
returns-then-len-eq0-clause-used c =
    let none : c.in_ok-blocks.blocks.items ≡ [] = none_in c.in_ok-blocks.blocks.items (sym c.in_ok-blocks.blocks.ok.0 ∙ sym c.len.ensures ∙ c.if-len-eq0.true) in
    subst (λ bs. AreUsed c.args.image.now c.args.layout.now bs c.args.image.now) (sym none)
    (none_used c.args.image.now c.args.layout.now c.requires (λ b f. let among = subst (λ bs. Contains bs b) none ((c.in_ok-blocks.ensures.blocks b).1 f) in let low = among.1 in absurd (omega (arith, low))))

pub mark_all-requires-clause-once : goal.mark_all-requires-clause-once
mark_all-requires-clause-once c = (c.in_ok-blocks.ensures.apart (λ none. c.if-len-eq0.false (c.len.ensures ∙ sym c.deref.ensures.len ∙ ap length (c.deref.ensures.value ∙ none)))).once

pub returns-clause-used : goal.returns-clause-used
returns-clause-used c =
    let I = c.args.image.now in
    let L = c.args.layout.now in
    are_used I c.mark_all.new.image L c.in_ok-blocks.blocks.items c.requires (c.in_ok-blocks.ensures.apart (λ none. c.if-len-eq0.false (c.len.ensures ∙ sym c.deref.ensures.len ∙ ap length (c.deref.ensures.value ∙ none)))) c.in_ok-blocks.ensures.blocks
    (subst (λ bs. MarksBlocks I L bs false c.mark_all.new.image) c.deref.ensures.value c.mark_all.ensures) c.in_ok-blocks.ensures.ascending
