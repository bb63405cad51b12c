-- Numbers that are flagged, and one more.
use Rattle.std.proofs.Common.{◌≡◌, ◌⊎◌, inl, inr, ℕ, ◌+◌, ◌<◌, refl, sym, ap, ◌∙◌, subst, Bool, true, false, List, [], ◌∷◌, ◌++◌, length, map, set, get_or, take, append_assoc, Some, slice_get, arith}
use Rattle.std.specs.Prelude.{MatchBool, replicate}
use Rattle.std.specs.List.{Contains}
use Rattle.std.proofs.lemmas.Bool.{cases_eq}
use Rattle.std.proofs.lemmas.List.{length-set, get_or-set_same, get_or-set_other, length-replicate, get_or-replicate, map-append}
use Rattle.std.proofs.lemmas.List.Elements.{Contains-append_left, Contains-push, Contains-push_cases}
use Rattle.std.proofs.lemmas.Option.{slice_get_within, get_or_from_slice_get}
use Rattle.ods_base.specs.declared.file_id.FileId.{FileId}
use Rattle.ods_space.specs.Layout.{VolumeLayout}
use Rattle.ods_shell.proofs.WaysLists.{front_more}
use Rattle.ods_shell.specs.Named.{id_of}
use Rattle.ods_shell.specs.There.{AreFlags, IsAmong, IsThere}

-- one says no more than the other
pub record IsSame (P Q : Type 0) : Type 0 where
  pub on : P → Q
  pub back : Q → P

carried : (b : Bool) (P Q : Type 0) → IsSame P Q → MatchBool b P (¬ P) → MatchBool b Q (¬ Q)
carried true P Q same is = same.on is
carried false P Q same is = λ q. is (same.back q)

pub flags_same : (P Q : ℕ → Type 0) (flags : List Bool) → ((n : ℕ) → IsSame (P n) (Q n)) → AreFlags P flags → AreFlags Q flags
flags_same P Q flags same are = record { size = are.size; each = λ n small. carried (get_or flags n false) (P n) (Q n) (same n) (are.each n small) }

pub flags_set : (P Q : ℕ → Type 0) (old new : List Bool) (m : ℕ) → new ≡ set old m true → Q m → ((n : ℕ) → (n ≡ m → ⊥) → IsSame (P n) (Q n)) → AreFlags P old → AreFlags Q new
flags_set P Q old new m is holds same are = record {
  size = ap length is ∙ length-set old m true ∙ are.size;
  each = λ n small. subst (λ fs. MatchBool (get_or fs n false) (Q n) (¬ Q n)) (sym is) (by n small (cases_eq n m));
}
  where
    by : (n : ℕ) → n < 65536 → (n ≡ m) ⊎ (n ≡ m → ⊥) → MatchBool (get_or (set old m true) n false) (Q n) (¬ Q n)
    by n small (inl here) =
        let inside : m < length old = subst (λ k. k < length old) here (subst (λ k. n < k) (sym are.size) small) in
        subst (λ b. MatchBool b (Q n) (¬ Q n)) (sym (ap (λ k. get_or (set old m true) k false) here ∙ get_or-set_same old m true false inside)) (subst Q (sym here) holds)
    by n small (inr other) =
        subst (λ b. MatchBool b (Q n) (¬ Q n)) (sym (get_or-set_other old m n true false other)) (carried (get_or old n false) (P n) (Q n) (same n other) (are.each n small))

pub flags_none : (P : ℕ → Type 0) (flags : List Bool) (size : ℕ) → flags ≡ replicate size false → size ≡ 65536 → ((n : ℕ) → ¬ P n) → AreFlags P flags
flags_none P flags size is all none = record {
  size = ap length is ∙ length-replicate size false ∙ all;
  each = λ n small. subst (λ b. MatchBool b (P n) (¬ P n)) (sym (ap (λ l. get_or l n false) is ∙ get_or-replicate size n false false (subst (λ k. n < k) (sym all) small))) (none n);
}

pub none_of_none : {X : Type 0} (x : X) → ¬ Contains [] x
none_of_none x has = let none_below : has.0 < 0 = has.1 in absurd (omega arith)

module _ (I : List (List ℕ)) (L : VolumeLayout) where
  -- an ID more, of a file that is there or of none
  pub among_more : (ids : List FileId) (file : FileId) (old new : List Bool)
      → (IsThere I L file × (new ≡ set old file.number true)) ⊎ ((¬ IsThere I L file) × (new ≡ old))
      → AreFlags (IsAmong I L ids) old → AreFlags (IsAmong I L (ids ++ file ∷ [])) new
  among_more ids file old new noted are = elim noted [
    | inl there ↦ (
        let own : file ≡ id_of I L file.number = λ i. record { number = file.number; sequence = sym there.0.1 i } in
        flags_set (IsAmong I L ids) (IsAmong I L (ids ++ file ∷ [])) old new file.number there.1
        (there.0.0, subst (Contains (ids ++ file ∷ [])) own (Contains-push ids file))
        (λ n other. record {
          on = λ is. (is.0, Contains-append_left ids (file ∷ []) (id_of I L n) is.1);
          back = λ is. (is.0, elim (Contains-push_cases ids file (id_of I L n) is.1) [ inl left ↦ left | inr same ↦ absurd (other (sym (ap (λ (f : FileId). f.number) same))) ]);
        }) are)
    | inr none ↦ subst (AreFlags (IsAmong I L (ids ++ file ∷ []))) (sym none.1)
        (flags_same (IsAmong I L ids) (IsAmong I L (ids ++ file ∷ [])) old
        (λ n. record {
          on = λ is. (is.0, Contains-append_left ids (file ∷ []) (id_of I L n) is.1);
          back = λ is. (
            is.0,
            elim (Contains-push_cases ids file (id_of I L n) is.1) [
              | inl left ↦ left
              | inr same ↦ absurd (none.0 (subst (IsThere I L) (sym same) (is.0, refl)))
            ],
          );
        }) are)
  ]

-- the front of a list, as what is made of each element, and one more
pub taken_more : {X Y : Type 0} (f : X → Y) (xs : List X) (n : ℕ) (x : X) → slice_get xs n ≡ Some x → map f (take (n + 1) xs) ≡ map f (take n xs) ++ f x ∷ []
taken_more f xs n x at =
    ap (map f) (front_more xs n x (slice_get_within xs n x at) (sym (get_or_from_slice_get xs n x x at))) ∙ map-append f (take n xs) (x ∷ [])

-- the IDs before these, and those of the front
pub among_next : (I : List (List ℕ)) (L : VolumeLayout) {X : Type 0} (f : X → FileId) (before : List FileId) (xs : List X) (n : ℕ) (x : X) (old new : List Bool) → slice_get xs n ≡ Some x
    → (IsThere I L (f x) × (new ≡ set old (f x).number true)) ⊎ ((¬ IsThere I L (f x)) × (new ≡ old))
    → AreFlags (IsAmong I L (before ++ map f (take n xs))) old → AreFlags (IsAmong I L (before ++ map f (take (n + 1) xs))) new
among_next I L f before xs n x old new at noted are =
    subst (λ ids. AreFlags (IsAmong I L ids) new) (append_assoc before (map f (take n xs)) (f x ∷ []) ∙ sym (ap (λ l. before ++ l) (taken_more f xs n x at)))
    (among_more I L (before ++ map f (take n xs)) (f x) old new noted are)
