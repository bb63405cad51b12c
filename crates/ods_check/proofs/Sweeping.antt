-- Loops over numbers that add what they find of each.
use Rattle.std.proofs.Common.{◌≡◌, Bool, true, false, cond, ℕ, ◌+◌, ◌<◌, ◌≤◌, length, map, Some, List, [], ◌∷◌, ◌++◌, inl, inr, sym, subst, ap, ◌∙◌, append_assoc, arith}
use Rattle.std.specs.List.{All, Contains}
use Rattle.std.specs.Prelude.{MatchBool, slice_get, slice_index}
use Rattle.std.proofs.lemmas.Bool.{cases_lt}
use Rattle.std.proofs.lemmas.List.{append-nil, map-append, length-map, get_or-map}
use Rattle.std.proofs.lemmas.List.Elements.{All-nil, All-push, All-map, Contains-append_left, Contains-append_right, Contains-push}
use Rattle.std.proofs.lemmas.Option.{slice_get_within, slice_get-get_or, get_or_from_slice_get}
use Rattle.ods_check.specs.Lists.{Adds, AddsEach, AddsInTurn}
use Rattle.ods_check.proofs.Adding.{adds_none, adds_more}
use Rattle.ods_check.proofs.Turning.{at_place, distinct_nil, distinct_push}

-- What was added has P, and all is told of each number below k.
pub record Sweeps {X : Type 0} (P : X → Type 0) (Tells : ℕ → List X → Type 0) (old new : List X × ℕ) (k : ℕ) : Type 0 where
  pub adds : Adds P old new
  pub told : (n : ℕ) → n < k → Tells n new.0

pub sweeps_none : {X : Type 0} (P : X → Type 0) (Tells : ℕ → List X → Type 0) (xs : List X × ℕ) → Sweeps P Tells xs xs 0
sweeps_none P Tells xs = record { adds = adds_none P xs; told = λ n low. absurd (omega arith) }

-- one number more
pub sweeps_more : {X : Type 0} (P : X → Type 0) (Tells : ℕ → List X → Type 0) (old mid new : List X × ℕ) (k : ℕ) → ((n : ℕ) → Tells n mid.0 → Tells n new.0)
    → Sweeps P Tells old mid k → Adds P mid new → Tells k new.0 → Sweeps P Tells old new (k + 1)
sweeps_more P Tells old mid new k still s a t = record {
  adds = adds_more P old mid new s.adds a;
  told = λ n low. elim (cases_lt n k) [
    | inl less ↦ still n (s.told n less)
    | inr more ↦ let e : k ≡ n = omega arith in let Q : ℕ → Type 0 = λ x. Tells x new.0 in subst Q e t
  ];
}

-- numbers below k that are so
abbrev pub Below : (ℕ → Type 0) → ℕ → ℕ → Type 0
Below Is k n = (n < k) × Is n

-- the lines of the numbers below k that are so
module _ {X : Type 0} (Is : ℕ → Type 0) (line : ℕ → X) where
  pub each_none : (xs : List X × ℕ) → AddsEach (Below Is 0) line xs xs
  each_none xs = record {
    numbers = [];
    is = ap (λ l. (l, xs.1)) (sym (append-nil xs.0));
    each = All-nil _;
    all = λ n h. absurd (let low = h.0 in omega arith);
    once = distinct_nil;
  }

  -- one number more, where a test says whether it is so
  pub each_next : (old mid new : List X × ℕ) (k : ℕ) (x : X) (b : Bool) → AddsEach (Below Is k) line old mid → MatchBool b (Is k) (¬ Is k) → x ≡ line k → new ≡ cond b (mid.0 ++ x ∷ [], mid.1) mid
      → AddsEach (Below Is (k + 1)) line old new
  each_next old mid new k x true a here same is = record {
    numbers = a.numbers ++ k ∷ [];
    is = is ∙ ap (λ l. (l.0 ++ x ∷ [], l.1)) a.is ∙ ap (λ l. (l, old.1)) (append_assoc old.0 (map line a.numbers) (x ∷ []))
        ∙ ap (λ y. (old.0 ++ (map line a.numbers ++ y ∷ []), old.1)) same ∙ ap (λ l. (old.0 ++ l, old.1)) (sym (map-append line a.numbers (k ∷ [])));
    each = All-push (Below Is (k + 1)) a.numbers k (λ i d low. let was = a.each i d low in ((let less = was.0 in omega arith), was.1)) (omega arith, here);
    all = λ n h. elim (cases_lt n k) [
      | inl less ↦ Contains-append_left a.numbers (k ∷ []) n (a.all n (less, h.1))
      | inr more ↦
          let low = h.0 in
          let e : k ≡ n = omega arith in
          subst (λ (m : ℕ). Contains (a.numbers ++ k ∷ []) m) e (Contains-push a.numbers k)
    ];
    once = distinct_push a.numbers k (λ i m at. (at_place (Below Is k) a.numbers i m a.each at).0) a.once;
  }
  each_next old mid new k x false a none same is = record {
    numbers = a.numbers;
    is = is ∙ a.is;
    each = λ i d low. let was = a.each i d low in ((let less = was.0 in omega arith), was.1);
    all = λ n h. elim (cases_lt n k) [
      | inl less ↦ a.all n (less, h.1)
      | inr more ↦ let low = h.0 in let e : n ≡ k = omega arith in absurd (none (subst Is e h.1))
    ];
    once = a.once;
  }

  -- no number that is so is left
  pub each_all : (old new : List X × ℕ) (k : ℕ) → ((n : ℕ) → Is n → n < k) → AddsEach (Below Is k) line old new → AddsEach Is line old new
  each_all old new k few a = record {
    numbers = a.numbers;
    is = a.is;
    each = λ i d low. (a.each i d low).1;
    all = λ n h. a.all n (few n h, h);
    once = a.once;
  }

  module _ (old new : List X × ℕ) (a : AddsEach Is line old new) where
    -- what was added has P
    pub each_adds : (P : X → Type 0) → ((n : ℕ) → Is n → P (line n)) → Adds P old new
    each_adds P holds = record { more = map line a.numbers; is = a.is; each = All-map P line a.numbers (λ i d low. holds _ (a.each i d low)) }

    -- each is told
    pub each_told : (n : ℕ) → Is n → Contains new.0 (line n)
    each_told n h =
        let there = a.all n h in
        let i = there.0 in
        let within : i < length (map line a.numbers) = (let size = length-map a.numbers line in let low = there.1 in omega arith) in
        subst (λ l. Contains l (line n)) (sym (ap (λ l. l.0) a.is))
        (Contains-append_right old.0 (map line a.numbers) (line n) (i, within, get_or-map line a.numbers i n (line n) there.1 ∙ ap line there.2))

    -- in turn, each once
    pub each_turn : (turn : X → ℕ) (first end : ℕ) → ((n : ℕ) → Is n → (turn (line n) ≡ first + n) × (first + n < end)) → AddsInTurn turn first end old new
    each_turn turn first end at =
        let size = length-map a.numbers line in
        let here : (i : ℕ) (x : X) → slice_get (map line a.numbers) i ≡ Some x → (i < length a.numbers) × (x ≡ line (slice_index a.numbers i)) = λ i x there.
        let within = slice_get_within (map line a.numbers) i x there in
        let low : i < length a.numbers = omega arith in
        (low, sym (get_or_from_slice_get (map line a.numbers) i x x there) ∙ get_or-map line a.numbers i 0 x low) in
        record {
          more = map line a.numbers;
          is = a.is;
          turns = All-map (λ x. (first ≤ turn x) × (turn x < end)) line a.numbers (λ i d low. let t = at _ (a.each i d low) in let e = t.0 in let less = t.1 in (omega arith, omega arith));
          once = λ i j x one two.
              let p = here i x one in
              let q = here j x two in
              let s = (at _ (a.each i 0 p.0)).0 in
              let t = (at _ (a.each j 0 q.0)).0 in
              let both = ap turn (sym p.1 ∙ q.1) in
              let same : slice_index a.numbers i ≡ slice_index a.numbers j = omega arith in
              a.once i j (slice_index a.numbers i) (slice_get-get_or a.numbers i 0 p.0) (slice_get-get_or a.numbers j 0 q.0 ∙ ap Some (sym same));
        }
