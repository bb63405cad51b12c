use Rattle.std.proofs.Common.{◌≡◌, ◌++◌, sym, ap, ◌∙◌, [], ◌∷◌, map, append_assoc}
use Rattle.std.specs.Prelude.{reverse}
use Rattle.std.proofs.lemmas.List.{reverse-append, map-append}
use Rattle.ods_walk.specs.Steps.{from_top, placed}
use Rattle.ods_walk.proofs.walking.put_lines.Goals as goal

pub entries-preserved : goal.entries-preserved
entries-preserved c =
    let f = placed c.args.place in
    let pushed : from_top c.push.new.self.items ≡ f c.in-Some.entry ∷ from_top c.entries.pile.items =
    ap reverse c.in_ok-push.ensures.items ∙ reverse-append c.entries.pile.items (f c.in-Some.entry ∷ []) in
    ap (λ p. map f c.pop.new.self.items ++ p) pushed
    ∙ sym (append_assoc (map f c.pop.new.self.items) (f c.in-Some.entry ∷ []) (from_top c.entries.pile.items))
    ∙ ap (λ l. l ++ from_top c.entries.pile.items) (sym (map-append f c.pop.new.self.items (c.in-Some.entry ∷ [])))
    ∙ ap (λ l. map f l ++ from_top c.entries.pile.items) (sym c.in-Some.ensures.items)
    ∙ c.entries.invariant
