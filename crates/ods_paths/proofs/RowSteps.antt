-- From the row of a pattern to that of the pattern with one more character before it.
use Rattle.std.proofs.Common.{◌≡◌, ◌≢◌, ◌↔◌, ℕ, suc, ◌+◌, ◌-◌, ◌<◌, ◌≤◌, ◌⊎◌, List, [], ◌∷◌, ◌++◌, length, take, drop, get_or, Bool, true, false, refl, sym, ap, ◌∙◌, subst, arith, inl, inr}
use Rattle.std.proofs.lemmas.Bool.{cases_lt}
use Rattle.std.proofs.lemmas.List.{take-append-drop, drop-drop, drop_more, drop_at, length-append, length-drop, get_or_past, get_or-drop}
use Rattle.ods_paths.specs.Patterns.{Matches, StandsFor}
use Rattle.ods_paths.specs.Rows.{Says, IsRow, OpensRuns, TakesOne}

-- a row says yes only at its places
within : (row : List Bool) (k : ℕ) → Says row k → k < length row
within row k says = elim (cases_lt k (length row)) [ inl h ↦ h | inr h ↦ absurd (let e : false ≡ true = sym (get_or_past row k false h) ∙ says in cc) ]

-- what stands behind a run
behind : (text run rest : List ℕ) (j : ℕ) → drop j text ≡ run ++ rest → drop (j + length run) text ≡ rest
behind text run rest j e = sym (drop-drop (length run) j text) ∙ ap (drop (length run)) e ∙ drop_at run rest (length run) refl

-- it ends within the text
ends : (text run rest : List ℕ) (j : ℕ) → j ≤ length text → drop j text ≡ run ++ rest → j + length run ≤ length text
ends text run rest j small e = omega (arith, length-drop j text, ap length e, length-append run rest)

pub runs_row : (text : List ℕ) (old new : List Bool) (pattern : List ℕ) → OpensRuns old new → IsRow text old pattern → IsRow text new (42 ∷ pattern)
runs_row text old new pattern opens row = record {
  size = opens.size ∙ row.size;
  each = λ j small. (
    λ says.
        let from = (opens.each j).0 says in
        let k : ℕ = from.0 in
        let later : j ≤ k = from.1 in
        let here : k ≤ length text = omega (arith, within old k from.2, row.size) in
        let there : drop (k - j) (drop j text) ≡ drop k text = drop-drop (k - j) j text ∙ ap (λ n. drop n text) (omega arith) in
        let whole : drop j text ≡ take (k - j) (drop j text) ++ drop k text = sym (take-append-drop (k - j) (drop j text)) ∙ ap (λ l. take (k - j) (drop j text) ++ l) there in
        (take (k - j) (drop j text), drop k text, whole, inl refl, (row.each k here).0 from.2),
    λ m.
        let k : ℕ = j + length m.0 in
        let here : k ≤ length text = ends text m.0 m.1 j small m.2 in
        let matches : Matches pattern (drop k text) = subst (Matches pattern) (sym (behind text m.0 m.1 j m.2)) m.4 in
        (opens.each j).1 (k, omega arith, (row.each k here).1 matches),
  );
}

-- a character that is no `*` stands for one
stands_for_one : (c : ℕ) (run : List ℕ) → c ≢ 42 → StandsFor c run → (x : ℕ) × (run ≡ x ∷ []) × ((c ≡ 63) ⊎ (c ≡ x))
stands_for_one c run ne (inl e) = absurd (ne e)
stands_for_one c [] ne (inr (inl p)) = let e : 0 ≡ 1 = p.1 in absurd (omega (arith, e))
stands_for_one c (x ∷ []) ne (inr (inl p)) = (x, refl, inl p.0)
stands_for_one c (x ∷ y ∷ run) ne (inr (inl p)) = let e : length (x ∷ y ∷ run) ≡ 1 = p.1 in absurd (omega (arith, e))
stands_for_one c run ne (inr (inr e)) = (c, e, inr refl)

-- one character that it stands for
for_one : (c x : ℕ) → (c ≡ 63) ⊎ (c ≡ x) → StandsFor c (x ∷ [])
for_one c x (inl e) = inr (inl (e, refl))
for_one c x (inr e) = inr (inr (ap (λ y. y ∷ []) (sym e)))

pub one_row : (c : ℕ) (text : List ℕ) (old new : List Bool) (pattern : List ℕ) → c ≢ 42 → TakesOne c text old new → IsRow text old pattern → IsRow text new (c ∷ pattern)
one_row c text old new pattern ne takes row = record {
  size = takes.size ∙ row.size;
  each = λ j small. (
    λ says.
        let p = (takes.each j).0 says in
        (get_or text j 0 ∷ [], drop (j + 1) text, drop_more text j 0 p.0, for_one c (get_or text j 0) p.1, (row.each (j + 1) (omega (arith, p.0))).0 p.2),
    λ m.
        let one = stands_for_one c m.0 ne m.3 in
        let whole : drop j text ≡ one.0 ∷ m.1 = m.2 ∙ ap (λ l. l ++ m.1) one.1 in
        let less : j < length text = omega (arith, length-drop j text, ap length whole) in
        let split : one.0 ∷ m.1 ≡ get_or text j 0 ∷ drop (j + 1) text = sym whole ∙ drop_more text j 0 less in
        let head : one.0 ≡ get_or text j 0 = cc in
        let tail : m.1 ≡ drop (j + 1) text = cc in
        let same : (c ≡ 63) ⊎ (c ≡ get_or text j 0) = subst (λ (x : ℕ). (c ≡ 63) ⊎ (c ≡ x)) head one.2 in
        (takes.each j).1 (less, same, (row.each (j + 1) (omega (arith, less))).1 (subst (Matches pattern) tail m.4)),
  );
}
