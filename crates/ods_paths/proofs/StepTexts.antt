-- The texts of steps, from the first on and from the last back.
use Rattle.std.proofs.Common.{◌≡◌, ◌↔◌, ℕ, ◌<◌, List, [], ◌∷◌, ◌++◌, length, true, Option, Some, None, refl, sym, ap, ◌∙◌, subst, arith, append-nil}
use Rattle.std.specs.Bool.{IsTrue}
use Rattle.std.specs.List.{All, slice_split, before_first, after_first, before_last, after_last}
use Rattle.std.proofs.lemmas.List.Elements.{All-nil, All-cons, All-head, All-tail}
use Rattle.std.proofs.lemmas.List.Splits.{slice_split_first, slice_split_none}
use Rattle.std.proofs.lemmas.List.Sums.{fails_before_first}
use Rattle.ods_text.specs.Cuts.{is, Has, Lacks}
use Rattle.ods_paths.specs.Steps.{IsStep, step_texts, one_more}
use Rattle.ods_paths.proofs.LastParts.{parts_of, one_part}

pub first_text : (c : ℕ) (t m : Option (List ℕ)) (text front back : List ℕ) → t ≡ Some text → Has c text → front ≡ before_first (is c) text → back ≡ after_first (is c) text → step_texts c t m ≡ front ∷ step_texts c (Some back) m
first_text c t m text front back e has f b =
    let cut : slice_split (is c) text ≡ front ∷ slice_split (is c) back =
    slice_split_first (is c) text 0 has ∙ ap (λ l. l ∷ slice_split (is c) (after_first (is c) text)) (sym f) ∙ ap (λ l. front ∷ slice_split (is c) l) (sym b) in
    ap (λ (o : Option (List ℕ)). step_texts c o m) e ∙ ap (λ (l : List (List ℕ)). l ++ one_more m) cut

pub only_text : (c : ℕ) (t m : Option (List ℕ)) (text : List ℕ) → t ≡ Some text → Lacks c text → step_texts c t m ≡ text ∷ step_texts c None m
only_text c t m text e lacks =
    let one : slice_split (is c) text ≡ text ∷ [] = slice_split_none (is c) text (λ k d h. fails_before_first (is c) text k d (omega (arith, h, lacks))) in
    ap (λ (o : Option (List ℕ)). step_texts c o m) e ∙ ap (λ (l : List (List ℕ)). l ++ one_more m) one

pub cut_text : (c : ℕ) (t m : Option (List ℕ)) (text before last : List ℕ) → t ≡ Some text → m ≡ None → Has c text → before ≡ before_last (is c) text → last ≡ after_last (is c) text → step_texts c t m ≡ step_texts c (Some before) None ++ last ∷ []
cut_text c t m text before last e f has b l =
    (λ i. step_texts c (e i) (f i)) ∙ append-nil (slice_split (is c) text) ∙ parts_of c text has ∙ (λ i. slice_split (is c) (sym b i) ++ sym l i ∷ [])
    ∙ ap (λ (ls : List (List ℕ)). ls ++ last ∷ []) (sym (append-nil (slice_split (is c) before)))

pub whole_text : (c : ℕ) (t m : Option (List ℕ)) (text : List ℕ) → t ≡ Some text → m ≡ None → ¬ Has c text → step_texts c t m ≡ text ∷ []
whole_text c t m text e f lacks = (λ i. step_texts c (e i) (f i)) ∙ append-nil (slice_split (is c) text) ∙ one_part c text lacks

-- each text is a step
pub bad_step : (all rest behind : List (List ℕ)) (text : List ℕ) → (All IsStep all ↔ All IsStep rest) → rest ≡ text ∷ behind → (IsStep text → ⊥) → All IsStep all → ⊥
bad_step all rest behind text same cut bad each = bad (All-head IsStep text behind (subst (All IsStep) cut (same.0 each)))

pub good_step : (all rest behind : List (List ℕ)) (text : List ℕ) → (All IsStep all ↔ All IsStep rest) → rest ≡ text ∷ behind → IsStep text → All IsStep all ↔ All IsStep behind
good_step all rest behind text same cut good = (
  λ each. All-tail IsStep text behind (subst (All IsStep) cut (same.0 each)),
  λ each. same.1 (subst (All IsStep) (sym cut) (All-cons IsStep text behind good each)),
)

pub all_steps : (all rest : List (List ℕ)) → (All IsStep all ↔ All IsStep rest) → rest ≡ [] → IsTrue true ↔ All IsStep all
all_steps all rest same none = (λ t. same.1 (subst (All IsStep) (sym none) (All-nil IsStep)), λ each. refl)

pub shorter : (rest behind : List (List ℕ)) (text : List ℕ) → rest ≡ text ∷ behind → length behind < length rest
shorter rest behind text cut = omega (arith, ap length cut)
