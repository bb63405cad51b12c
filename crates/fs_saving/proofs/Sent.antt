-- What a file is given, block by block.
use Rattle.std.proofs.Common.{◌≡◌, ℕ, ◌+◌, ◌<◌, ◌≤◌, List, [], ◌∷◌, ◌++◌, length, take, get_or, Result, Ok, Err, OnOk, sym, ap, ◌∙◌, append_assoc}
use Rattle.std.specs.List.{concat}
use Rattle.std.proofs.lemmas.List.{append-nil, take_all, take_more}
use Rattle.std.proofs.lemmas.List.Folds.{concat-append}

-- what follows from the promise for Ok is promised for Ok
pub on_ok : {A E P Q : Type 0} (result : Result A E) → (P → Q) → OnOk result P → OnOk result Q
on_ok (Ok x) follows promise = follows promise
on_ok (Err e) follows promise = tt

-- the bytes of a block more of an image
pub concat_next : (I : List (List ℕ)) (i : ℕ) → i < length I → concat (take (i + 1) I) ≡ concat (take i I) ++ get_or I i []
concat_next I i low = ap concat (take_more I i [] low) ∙ concat-append (take i I) (get_or I i [] ∷ []) ∙ ap (λ l. concat (take i I) ++ l) (append-nil (get_or I i []))

-- a file that was given some blocks of an image is given one more
pub given_next : (I : List (List ℕ)) (i : ℕ) (old before now block : List ℕ) → i < length I → block ≡ get_or I i [] → before ≡ old ++ concat (take i I) → now ≡ before ++ block → now ≡ old ++ concat (take (i + 1) I)
given_next I i old before now block low here so_far more =
    more ∙ ap (λ l. l ++ block) so_far ∙ append_assoc old (concat (take i I)) block ∙ ap (λ l. old ++ (concat (take i I) ++ l)) here ∙ ap (λ l. old ++ l) (sym (concat_next I i low))

-- a file that was given all of them is given what stands behind
pub given_all : (I : List (List ℕ)) (i : ℕ) (old before now behind : List ℕ) → length I ≤ i → before ≡ old ++ concat (take i I) → now ≡ before ++ behind → now ≡ old ++ (concat I ++ behind)
given_all I i old before now behind far so_far more = more ∙ ap (λ l. l ++ behind) so_far ∙ append_assoc old (concat (take i I)) behind ∙ ap (λ l. old ++ (concat l ++ behind)) (take_all i I far)
