-- How sets of what files have grow, number by number and file by file.
use Rattle.std.proofs.Common.{◌≡◌, ℕ, ◌+◌, ◌<◌, ◌≤◌, ◌⊎◌, true, false, List, length, slice_get, Some, inl, inr, sym, ap, ◌∙◌, subst, arith}
use Rattle.std.proofs.lemmas.Bool.{cases_lt, cases_eq}
use Rattle.std.proofs.lemmas.Option.{slice_get_within}
use Rattle.ods_mount.specs.Tables.{has, IsWith}
use Rattle.ods_check.specs.Sets.{IsSetOf}

-- a set by another word for what is in it
pub set_as : (P Q : ℕ → Type 0) (set : List ℕ) → ((x : ℕ) → P x → Q x) → ((x : ℕ) → Q x → P x) → IsSetOf P set → IsSetOf Q set
set_as P Q set to from s = record { only = λ x m. to x (s.only x m); all = λ x q. s.all x (from x q) }

-- an empty set
pub set_none : (P : ℕ → Type 0) (set : List ℕ) → ((b : ℕ) → has set b ≡ false) → ((x : ℕ) → ¬ P x) → IsSetOf P set
set_none P set none never = record {
  only = λ x m. absurd (let clash : true ≡ false = sym m ∙ none x in cc);
  all = λ x p. absurd (never x p);
}

-- nothing is put in
pub set_same : (P : ℕ → Type 0) (set : List ℕ) → ((x : ℕ) → ¬ P x) → IsSetOf (λ x. (has set x ≡ true) ⊎ P x) set
set_same P set never = record {
  only = λ x m. inl m;
  all = λ x o. elim o [ inl m ↦ m | inr p ↦ absurd (never x p) ];
}

-- one number more
pub set_with : (P : ℕ → Type 0) (old new : List ℕ) (b : ℕ) → IsSetOf P old → IsWith new old b → IsSetOf (λ x. P x ⊎ (x ≡ b)) new
set_with P old new b s w = record {
  only = λ x m. elim (cases_eq x b) [
    | inl e ↦ inr e
    | inr other ↦ inl (s.only x (sym (w.1 x other) ∙ m))
  ];
  all = λ x o. elim (cases_eq x b) [
    | inl e ↦ let Q : ℕ → Type 0 = λ y. has new y ≡ true in subst Q (sym e) w.0
    | inr other ↦ elim o [
      | inl p ↦ w.1 x other ∙ s.all x p
      | inr e ↦ absurd (other e)
    ]
  ];
}

-- the set is another one with the first i of these numbers
abbrev pub IsWithFirst : List ℕ → List ℕ → ℕ → List ℕ → Type 0
IsWithFirst start xs i set = IsSetOf (λ b. (has start b ≡ true) ⊎ ((j : ℕ) × (j < i) × (slice_get xs j ≡ Some b))) set

pub first_none : (start xs : List ℕ) → IsWithFirst start xs 0 start
first_none start xs = set_same (λ b. (j : ℕ) × (j < 0) × (slice_get xs j ≡ Some b)) start (λ x p. let low = p.1 in omega arith)

pub first_more : (start xs : List ℕ) (i b : ℕ) (old new : List ℕ) → IsWithFirst start xs i old → slice_get xs i ≡ Some b → IsWith new old b → IsWithFirst start xs (i + 1) new
first_more start xs i b old new s at w = set_as (λ x. Before i x ⊎ (x ≡ b)) (Before (i + 1)) new to from (set_with (Before i) old new b s w)
  where
    Before : ℕ → ℕ → Type 0
    Before k x = (has start x ≡ true) ⊎ ((j : ℕ) × (j < k) × (slice_get xs j ≡ Some x))

    to : (x : ℕ) → Before i x ⊎ (x ≡ b) → Before (i + 1) x
    to x (inl (inl m)) = inl m
    to x (inl (inr (j, low, is))) = inr (j, omega arith, is)
    to x (inr e) = inr (i, omega arith, at ∙ ap Some (sym e))

    from : (x : ℕ) → Before (i + 1) x → Before i x ⊎ (x ≡ b)
    from x (inl m) = inl (inl m)
    from x (inr (j, low, is)) = elim (cases_lt j i) [
      | inl less ↦ inl (inr (j, less, is))
      | inr more ↦
          let e : j ≡ i = omega arith in
          let same : Some x ≡ Some b = sym is ∙ ap (slice_get xs) e ∙ at in
          inr cc
    ]

pub first_all : (start xs : List ℕ) (i : ℕ) (set : List ℕ) → length xs ≤ i → IsWithFirst start xs i set → IsSetOf (λ b. (has start b ≡ true) ⊎ ((j : ℕ) × (slice_get xs j ≡ Some b))) set
first_all start xs i set end s = set_as (λ b. (has start b ≡ true) ⊎ ((j : ℕ) × (j < i) × (slice_get xs j ≡ Some b))) (λ b. (has start b ≡ true) ⊎ ((j : ℕ) × (slice_get xs j ≡ Some b))) set
    (λ x o. elim o [ inl m ↦ inl m | inr (j, low, is) ↦ inr (j, is) ])
    (λ x o. elim o [ inl m ↦ inl m | inr (j, is) ↦ inr (j, (let within = slice_get_within xs j x is in omega arith), is) ]) s

-- what the files below n have: `Has m b` says that file m has b
abbrev pub IsOfFiles : (ℕ → ℕ → Type 0) → ℕ → List ℕ → Type 0
IsOfFiles Has n set = IsSetOf (λ b. (m : ℕ) × (m < n) × Has m b) set

module _ (Has : ℕ → ℕ → Type 0) where
  pub files_none : (set : List ℕ) → ((b : ℕ) → has set b ≡ false) → IsOfFiles Has 0 set
  files_none set none = set_none (λ b. (m : ℕ) × (m < 0) × Has m b) set none (λ x p. let low = p.1 in omega arith)

  -- the files below n, and n
  pub files_more : (n : ℕ) (old new : List ℕ) → IsOfFiles Has n old → IsSetOf (λ b. (has old b ≡ true) ⊎ Has n b) new → IsOfFiles Has (n + 1) new
  files_more n old new s t = set_as (λ b. (has old b ≡ true) ⊎ Has n b) (λ b. (m : ℕ) × (m < n + 1) × Has m b) new
      (λ x o. elim o [
        | inl m ↦ let f = s.only x m in (f.0, (let low = f.1 in omega arith), f.2)
        | inr h ↦ (n, omega arith, h)
      ])
      (λ x p. elim (cases_lt p.0 n) [
        | inl less ↦ inl (s.all x (p.0, less, p.2))
        | inr more ↦ let low = p.1 in let e : p.0 ≡ n = omega arith in let Q : ℕ → Type 0 = λ y. Has y x in inr (subst Q e p.2)
      ]) t

  -- all files
  pub files_all : (n : ℕ) (set : List ℕ) → ((m b : ℕ) → Has m b → m < n) → IsOfFiles Has n set → IsSetOf (λ b. (m : ℕ) × Has m b) set
  files_all n set few s = set_as (λ b. (m : ℕ) × (m < n) × Has m b) (λ b. (m : ℕ) × Has m b) set (λ x p. (p.0, p.2)) (λ x p. (p.0, few p.0 x p.1, p.1)) s

-- the set is another one, with what the numbers below n give: `Has m b` says that m gives b
abbrev pub IsGrown : (ℕ → ℕ → Type 0) → List ℕ → ℕ → List ℕ → Type 0
IsGrown Has start n set = IsSetOf (λ b. (has start b ≡ true) ⊎ ((m : ℕ) × (m < n) × Has m b)) set

module _ (Has : ℕ → ℕ → Type 0) (start : List ℕ) where
  pub grown_none : IsGrown Has start 0 start
  grown_none = set_same (λ b. (m : ℕ) × (m < 0) × Has m b) start (λ x p. let low = p.1 in omega arith)

  pub grown_more : (n : ℕ) (old new : List ℕ) → IsGrown Has start n old → IsSetOf (λ b. (has old b ≡ true) ⊎ Has n b) new → IsGrown Has start (n + 1) new
  grown_more n old new s t = set_as (λ b. (has old b ≡ true) ⊎ Has n b) (λ b. (has start b ≡ true) ⊎ ((m : ℕ) × (m < n + 1) × Has m b)) new
      (λ x o. elim o [
        | inl m ↦ elim (s.only x m) [
          | inl was ↦ inl was
          | inr (k, low, h) ↦ inr (k, omega arith, h)
        ]
        | inr h ↦ inr (n, omega arith, h)
      ])
      (λ x o. elim o [
        | inl was ↦ inl (s.all x (inl was))
        | inr (k, low, h) ↦ elim (cases_lt k n) [
          | inl less ↦ inl (s.all x (inr (k, less, h)))
          | inr more ↦ let e : k ≡ n = omega arith in let Q : ℕ → Type 0 = λ y. Has y x in inr (subst Q e h)
        ]
      ]) t

  pub grown_all : (n : ℕ) (set : List ℕ) → ((m b : ℕ) → Has m b → m < n) → IsGrown Has start n set → IsSetOf (λ b. (has start b ≡ true) ⊎ ((m : ℕ) × Has m b)) set
  grown_all n set few s = set_as (λ b. (has start b ≡ true) ⊎ ((m : ℕ) × (m < n) × Has m b)) (λ b. (has start b ≡ true) ⊎ ((m : ℕ) × Has m b)) set
      (λ x o. elim o [ inl was ↦ inl was | inr (k, low, h) ↦ inr (k, h) ])
      (λ x o. elim o [ inl was ↦ inl was | inr (k, h) ↦ inr (k, few k x h, h) ]) s
