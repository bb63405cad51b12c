-- Which elements a filter keeps.
use Rattle.std.proofs.Common.{◌≡◌, ℕ, ◌+◌, Bool, true, cond, sym, ap, subst, List, [], ◌∷◌, ◌++◌, take, drop, get_or, ◌∙◌}
use Rattle.std.specs.List.{Contains, filter}
use Rattle.std.proofs.lemmas.List.{take-append-drop}
use Rattle.std.proofs.lemmas.List.Elements.{Contains-append_left, Contains-push, filter-append, filter_more}

-- an element that passes is kept
pub contains_filter : (p : ℕ → Bool) (xs : List ℕ) (x : ℕ) → Contains xs x → p x ≡ true → Contains (filter p xs) x
contains_filter p xs x has passes =
    let k = has.0 in
    let more : filter p (take (k + 1) xs) ≡ filter p (take k xs) ++ cond (p (get_or xs k x)) (get_or xs k x ∷ []) [] = filter_more p xs k x has.1 in
    let here : cond (p (get_or xs k x)) (get_or xs k x ∷ []) [] ≡ x ∷ [] = ap (λ y. cond (p y) (y ∷ []) []) has.2 ∙ ap (λ b. cond b (x ∷ []) []) passes in
    let front : Contains (filter p (take (k + 1) xs)) x = subst (λ ys. Contains ys x) (sym (more ∙ ap (λ ys. filter p (take k xs) ++ ys) here)) (Contains-push (filter p (take k xs)) x) in
    let both : filter p (take (k + 1) xs) ++ filter p (drop (k + 1) xs) ≡ filter p xs = sym (filter-append p (take (k + 1) xs) (drop (k + 1) xs)) ∙ ap (filter p) (take-append-drop (k + 1) xs) in
    subst (λ ys. Contains ys x) both (Contains-append_left (filter p (take (k + 1) xs)) (filter p (drop (k + 1) xs)) x front)
