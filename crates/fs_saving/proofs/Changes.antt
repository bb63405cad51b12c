-- What the names of a folder in memory hold behind its changes, and bytes that are those of an image.
use Rattle.std.proofs.Common.{◌≡◌, Bool, true, false, ℕ, ◌+◌, ◌<◌, ◌≤◌, List, [], ◌∷◌, ◌++◌, length, take, drop, get_or, nat_eq, None, refl, sym, ap, ◌∙◌, append_assoc, arith}
use Rattle.std.specs.List.{concat}
use Rattle.std.specs.Cmp.Lexicographic.{pointwise, bytes_decides}
use Rattle.std.proofs.lemmas.Bool.{cond-true, cond-false}
use Rattle.std.proofs.lemmas.Bool.{cases_lt}
use Rattle.std.proofs.lemmas.List.{length_push, take-append-le, take_all, take-append-drop}
use Rattle.std.proofs.lemmas.List.Sums.{fold_push}
use Rattle.fs_saving.specs.declared.memory.Change.{Change}
use Rattle.std.proofs.Common.{◌⊎◌, inl, inr, Option}
use Rattle.fs_saving.specs.Memory.{held, held_behind, left_by, WasHeld}
use Rattle.fs_saving.proofs.Sent.{concat_next}

-- the last change is of the name
pub held_last : (changes : List Change) (change : Change) (name : List ℕ) → pointwise nat_eq change.name.items name ≡ true → held (changes ++ change ∷ []) name ≡ left_by change
held_last changes change name same = fold_push (held_behind name) None changes change ∙ cond-true (pointwise nat_eq change.name.items name) (left_by change) (held changes name) same

-- the last change is of another name
pub held_passed : (changes : List Change) (change : Change) (name : List ℕ) → pointwise nat_eq change.name.items name ≡ false → held (changes ++ change ∷ []) name ≡ held changes name
held_passed changes change name other = fold_push (held_behind name) None changes change ∙ cond-false (pointwise nat_eq change.name.items name) (left_by change) (held changes name) other

-- the name that is changed
pub held_put : (old mid new : List Change) (change : Change) (name : List ℕ) → new ≡ mid ++ change ∷ [] → mid ≡ old → change.name.items ≡ name → held new name ≡ left_by change
held_put old mid new change name is same here = ap (λ l. held l name) is ∙ held_last mid change name ((bytes_decides change.name.items name).1 here)

-- another name
pub held_beside : (old mid new : List Change) (change : Change) (name other : List ℕ) → new ≡ mid ++ change ∷ [] → mid ≡ old → change.name.items ≡ name → (other ≡ name → ⊥) → held new other ≡ held old other
held_beside old mid new change name other is same here apart =
    ap (λ l. held l other) is ∙ held_passed mid change other (differs (pointwise nat_eq change.name.items other) refl) ∙ ap (λ l. held l other) same
  where
    differs : (test : Bool) → pointwise nat_eq change.name.items other ≡ test → pointwise nat_eq change.name.items other ≡ false
    differs true e = absurd (apart (sym ((bytes_decides change.name.items other).0 e) ∙ here))
    differs false e = e

-- at each moment another name held what it held at one before
pub moments_put : (old mid new : List Change) (change : Change) (name other : List ℕ) → new ≡ mid ++ change ∷ [] → mid ≡ old → change.name.items ≡ name → (other ≡ name → ⊥) → (content : Option (List ℕ))
    → WasHeld new other content → WasHeld old other content
moments_put old mid new change name other is same here apart content was =
    let k : ℕ = was.count in
    let all : new ≡ old ++ change ∷ [] = is ∙ ap (λ l. l ++ change ∷ []) same in
    let long : length new ≡ length old + 1 = ap length all ∙ length_push old change in
    elim (cases_lt k (length new)) [
      | inl less ↦ let few : k ≤ length old = omega (arith, long) in record { count = k; within = few; is = ap (λ l. held l other) (sym (ap (take k) all ∙ take-append-le k old (change ∷ []) few)) ∙ was.is }
      | inr more ↦ record {
        count = length old;
        within = omega arith;
        is = ap (λ l. held l other) (take_all (length old) old (omega arith)) ∙ sym (held_beside old mid new change name other is same here apart) ∙ ap (λ l. held l other) (sym (take_all k new more)) ∙ was.is;
      }
    ]

-- at each moment the name held what it held before, or what the change leaves
pub moments_here : (old mid new : List Change) (change : Change) (name : List ℕ) → new ≡ mid ++ change ∷ [] → mid ≡ old → change.name.items ≡ name → (content : Option (List ℕ))
    → WasHeld new name content → WasHeld old name content ⊎ (left_by change ≡ content)
moments_here old mid new change name is same here content was =
    let k : ℕ = was.count in
    let all : new ≡ old ++ change ∷ [] = is ∙ ap (λ l. l ++ change ∷ []) same in
    let long : length new ≡ length old + 1 = ap length all ∙ length_push old change in
    elim (cases_lt k (length new)) [
      | inl less ↦ let few : k ≤ length old = omega (arith, long) in inl (record { count = k; within = few; is = ap (λ l. held l name) (sym (ap (take k) all ∙ take-append-le k old (change ∷ []) few)) ∙ was.is })
      | inr more ↦ inr (sym (held_put old mid new change name is same here) ∙ ap (λ l. held l name) (sym (take_all k new more)) ∙ was.is)
    ]

-- a search from the last change on finds one of the name
pub found_last : (whole rest before : List Change) (change : Change) (name : List ℕ) → held rest name ≡ held whole name → rest ≡ before ++ change ∷ [] → pointwise nat_eq change.name.items name ≡ true → held whole name ≡ left_by change
found_last whole rest before change name so_far is same = sym so_far ∙ ap (λ l. held l name) is ∙ held_last before change name same

-- it passes one of another name
pub passed_last : (whole rest before : List Change) (change : Change) (name : List ℕ) → held rest name ≡ held whole name → rest ≡ before ++ change ∷ [] → pointwise nat_eq change.name.items name ≡ false → held before name ≡ held whole name
passed_last whole rest before change name so_far is other = sym (held_passed before change name other) ∙ ap (λ l. held l name) (sym is) ∙ so_far

-- it finds none
pub found_none : (whole rest : List Change) (name : List ℕ) → held rest name ≡ held whole name → length rest ≡ 0 → held whole name ≡ None
found_none whole [] name so_far none = sym so_far
found_none whole (change ∷ rest) name so_far none = absurd (omega (arith, none))

-- bytes go on with a block more of an image
pub stripped : (I : List (List ℕ)) (i : ℕ) (bytes rest left block : List ℕ) → i < length I → block ≡ get_or I i [] → bytes ≡ concat (take i I) ++ rest → pointwise nat_eq (take (length block) rest) block ≡ true
    → left ≡ drop (length block) rest → bytes ≡ concat (take (i + 1) I) ++ left
stripped I i bytes rest left block low here so_far same behind =
    so_far ∙ ap (λ l. concat (take i I) ++ l) (sym (take-append-drop (length block) rest))
    ∙ ap (λ l. concat (take i I) ++ (l ++ drop (length block) rest)) ((bytes_decides (take (length block) rest) block).0 same ∙ here)
    ∙ ap (λ l. concat (take i I) ++ (get_or I i [] ++ l)) (sym behind)
    ∙ sym (append_assoc (concat (take i I)) (get_or I i []) left)
    ∙ ap (λ l. l ++ left) (sym (concat_next I i low))

-- bytes are those of the image and what stands behind it
pub matched : (I : List (List ℕ)) (i : ℕ) (bytes rest behind : List ℕ) → length I ≤ i → bytes ≡ concat (take i I) ++ rest → pointwise nat_eq rest behind ≡ true → bytes ≡ concat I ++ behind
matched I i bytes rest behind far so_far same = so_far ∙ ap (λ l. concat l ++ rest) (take_all i I far) ∙ ap (λ l. concat I ++ l) ((bytes_decides rest behind).0 same)
