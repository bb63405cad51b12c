-- Runs that blocks are cut into: they map these blocks, and pointers can say them.
use Rattle.std.proofs.Common.{◌≡◌, ℕ, ◌+◌, ◌<◌, ◌≤◌, ◌^◌, Bool, true, false, cond, ◌&&◌, nat_eq, nat_lt, List, [], ◌∷◌, ◌++◌, length, get_or, drop, drop-cons, refl, suc, sym, ap, ◌∙◌, arith, append_assoc}
use Rattle.std.specs.List.{All, flat_map}
use Rattle.std.proofs.lemmas.Bool.{eqb-true, eq-eqb, ne_eqb, ltb-true, lt-ltb, le-ltb}
use Rattle.std.proofs.lemmas.List.{drop_all}
use Rattle.std.proofs.lemmas.List.Elements.{All-nil, All-cons, All-head, All-tail}
use Rattle.ods_header.specs.declared.header.Run.{Run}
use Rattle.ods_header.specs.Header.{IsRun, run_blocks}
use Rattle.ods_space.proofs.Surveys.{range_push}
use Rattle.ods_alloc.specs.Extend.{cut, cut_from}

-- the run with one block more
abbrev pub longer : Run → Run
longer r = record { lbn = r.lbn; count = r.count + 1 }

-- the run of one block
abbrev pub single : ℕ → Run
single x = record { lbn = x; count = 1 }

-- the block goes on with this run
abbrev pub goes_on : Run → ℕ → Bool
goes_on r x = nat_eq x (r.lbn + r.count) && nat_lt r.count 256

pub cut_from_longer : (r : Run) (x : ℕ) (xs : List ℕ) → goes_on r x ≡ true → cut_from r (x ∷ xs) ≡ cut_from (longer r) xs
cut_from_longer r x xs e = ap (λ t. cond t (cut_from (longer r) xs) (r ∷ cut_from (single x) xs)) e

pub cut_from_next : (r : Run) (x : ℕ) (xs : List ℕ) → goes_on r x ≡ false → cut_from r (x ∷ xs) ≡ r ∷ cut_from (single x) xs
cut_from_next r x xs e = ap (λ t. cond t (cut_from (longer r) xs) (r ∷ cut_from (single x) xs)) e

on_end : (r : Run) (x : ℕ) → goes_on r x ≡ true → (x ≡ r.lbn + r.count) × (r.count < 256)
on_end r x = by (nat_eq x (r.lbn + r.count)) (nat_lt r.count 256) (eqb-true x (r.lbn + r.count)) (ltb-true r.count 256)
  where
    by : (a b : Bool) → (a ≡ true → x ≡ r.lbn + r.count) → (b ≡ true → r.count < 256) → (a && b) ≡ true → (x ≡ r.lbn + r.count) × (r.count < 256)
    by true true f g e = (f refl, g refl)
    by true false f g e = absurd (cc)
    by false b f g e = absurd (cc)

cut_from_blocks : (r : Run) (xs : List ℕ) → flat_map run_blocks (cut_from r xs) ≡ run_blocks r ++ xs
cut_from_blocks r [] = refl
cut_from_blocks r (x ∷ xs) = by (cut_from_blocks (longer r) xs) (cut_from_blocks (single x) xs) (goes_on r x) refl
  where
    by : flat_map run_blocks (cut_from (longer r) xs) ≡ run_blocks (longer r) ++ xs → flat_map run_blocks (cut_from (single x) xs) ≡ run_blocks (single x) ++ xs
        → (t : Bool) → goes_on r x ≡ t → flat_map run_blocks (cond t (cut_from (longer r) xs) (r ∷ cut_from (single x) xs)) ≡ run_blocks r ++ x ∷ xs
    by more new true e =
        more ∙ ap (λ l. l ++ xs) (range_push r.lbn r.count ∙ ap (λ n. run_blocks r ++ n ∷ []) (sym (on_end r x e).0))
        ∙ append_assoc (run_blocks r) (x ∷ []) xs
    by more new false e = ap (λ l. run_blocks r ++ l) new

pub cut_blocks : (xs : List ℕ) → flat_map run_blocks (cut xs) ≡ xs
unfolding cut
cut_blocks [] = refl
cut_blocks (x ∷ xs) = cut_from_blocks (single x) xs

cut_from_runs : (r : Run) (xs : List ℕ) → IsRun r → All (λ b. b < 2 ^ 24) xs → All IsRun (cut_from r xs)
cut_from_runs r [] lawful small = All-cons IsRun r [] lawful (All-nil IsRun)
cut_from_runs r (x ∷ xs) lawful small =
    by (λ l. cut_from_runs (longer r) xs l (All-tail (λ b. b < 2 ^ 24) x xs small)) (λ l. cut_from_runs (single x) xs l (All-tail (λ b. b < 2 ^ 24) x xs small)) (goes_on r x) refl
  where
    by : (IsRun (longer r) → All IsRun (cut_from (longer r) xs)) → (IsRun (single x) → All IsRun (cut_from (single x) xs))
        → (t : Bool) → goes_on r x ≡ t → All IsRun (cond t (cut_from (longer r) xs) (r ∷ cut_from (single x) xs))
    by more new true e = more (record { lbn = lawful.lbn; some = omega arith; most = let few = (on_end r x e).1 in omega arith })
    by more new false e = All-cons IsRun r (cut_from (single x) xs) lawful (new (record { lbn = All-head (λ b. b < 2 ^ 24) x xs small; some = omega arith; most = omega arith }))

pub cut_runs : (xs : List ℕ) → All (λ b. b < 2 ^ 24) xs → All IsRun (cut xs)
unfolding cut
cut_runs [] small = All-nil IsRun
cut_runs (x ∷ xs) small = cut_from_runs (single x) xs (record { lbn = All-head (λ b. b < 2 ^ 24) x xs small; some = omega arith; most = omega arith }) (All-tail (λ b. b < 2 ^ 24) x xs small)

-- no block
pub cut_nil : (xs : List ℕ) → length xs ≡ 0 → [] ≡ cut xs
unfolding cut
cut_nil [] none = refl
cut_nil (x ∷ xs) some = absurd (omega arith)

-- what is left to do after the first i blocks behind the first one, where `last` is the run that may still grow
abbrev pub IsCutSoFar : List Run → Run → List ℕ → ℕ → List ℕ → Type 0
IsCutSoFar done last rest i all = done ++ cut_from last (drop i rest) ≡ cut all

pub cut_first : (done : List Run) (x : ℕ) (rest all : List ℕ) → done ≡ [] → all ≡ x ∷ rest → done ++ cut_from (single x) rest ≡ cut all
unfolding cut
cut_first done x rest all none is = ap (λ l. l ++ cut_from (single x) rest) none ∙ ap cut (sym is)

on_now : (r : Run) (x : ℕ) → x ≡ r.lbn + r.count → r.count < 256 → goes_on r x ≡ true
on_now r x e less = ap (λ t. t && nat_lt r.count 256) (eq-eqb x (r.lbn + r.count) e) ∙ lt-ltb r.count 256 less

pub longer_now : (done : List Run) (r : Run) (rest : List ℕ) (i : ℕ) (all : List ℕ) → i < length rest → get_or rest i 0 ≡ r.lbn + r.count → r.count < 256
    → IsCutSoFar done r rest i all → IsCutSoFar done (longer r) rest (i + 1) all
longer_now done r rest i all within next few before =
    let place : i + 1 ≡ suc i = omega arith in
    let split : drop i rest ≡ get_or rest i 0 ∷ drop (i + 1) rest = drop-cons rest i 0 within ∙ ap (λ n. get_or rest i 0 ∷ drop n rest) (sym place) in
    ap (λ l. done ++ l) (sym (cut_from_longer r (get_or rest i 0) (drop (i + 1) rest) (on_now r (get_or rest i 0) next few)) ∙ ap (cut_from r) (sym split)) ∙ before

pub next_now : (done : List Run) (r : Run) (rest : List ℕ) (i : ℕ) (all : List ℕ) → i < length rest → goes_on r (get_or rest i 0) ≡ false
    → IsCutSoFar done r rest i all → IsCutSoFar (done ++ r ∷ []) (single (get_or rest i 0)) rest (i + 1) all
next_now done r rest i all within ends before =
    let x : ℕ = get_or rest i 0 in
    let place : i + 1 ≡ suc i = omega arith in
    let split : drop i rest ≡ x ∷ drop (i + 1) rest = drop-cons rest i 0 within ∙ ap (λ n. x ∷ drop n rest) (sym place) in
    append_assoc done (r ∷ []) (cut_from (single x) (drop (i + 1) rest))
    ∙ ap (λ l. done ++ l) (sym (cut_from_next r x (drop (i + 1) rest) ends) ∙ ap (cut_from r) (sym split)) ∙ before

pub ends_apart : (r : Run) (x : ℕ) → (x ≡ r.lbn + r.count → ⊥) → goes_on r x ≡ false
ends_apart r x other = ap (λ t. t && nat_lt r.count 256) (ne_eqb x (r.lbn + r.count) other)

pub ends_full : (r : Run) (x : ℕ) → 256 ≤ r.count → goes_on r x ≡ false
ends_full r x full = ap (λ t. nat_eq x (r.lbn + r.count) && t) (le-ltb r.count 256 full) ∙ and_false (nat_eq x (r.lbn + r.count))
  where
    and_false : (t : Bool) → (t && false) ≡ false
    and_false true = refl
    and_false false = refl

pub cut_ended : (done : List Run) (r : Run) (rest : List ℕ) (i : ℕ) (all : List ℕ) → length rest ≤ i → IsCutSoFar done r rest i all → done ++ r ∷ [] ≡ cut all
cut_ended done r rest i all past before = ap (λ l. done ++ cut_from r l) (sym (drop_all i rest past)) ∙ before
