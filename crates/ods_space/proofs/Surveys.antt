-- The blocks that runs and headers add to those before them, and what is noted of them.
use Rattle.std.proofs.Common.{◌≡◌, ℕ, zero, suc, ◌+◌, ◌-◌, ◌*◌, ◌<◌, ◌≤◌, ◌⊎◌, List, [], ◌∷◌, ◌++◌, length, take, get_or, Option, Some, None, refl, sym, ap, ◌∙◌, arith, inl, inr, subst}
use Rattle.std.specs.Prelude.{slice_get}
use Rattle.std.specs.List.{All, flat_map, range_with_len}
use Rattle.std.proofs.lemmas.List.{append_assoc, map-id, length-append, take_more, take_all, flat_map_more}
use Rattle.std.proofs.lemmas.List.Elements.{All-append, Contains-append_left, Contains-append_right}
use Rattle.std.proofs.lemmas.List.FromFn.{length-range_with_len, get_or-range_with_len, map-range_with_len_more}
use Rattle.std.proofs.lemmas.Option.{slice_get-get_or, slice_get_past, slice_get_within, get_or_from_slice_get}
use Rattle.ods_header.specs.declared.header.Run.{Run}
use Rattle.ods_header.specs.Header.{run_blocks, runs_of, blocks_of}
use Rattle.ods_space.specs.declared.survey.Survey.{Survey}
use Rattle.ods_space.specs.Walk.{IsPast, IsSurveyOf}

-- an element of the first list
pub slice_get-append_left : (xs ys : List ℕ) (i : ℕ) → i < length xs → slice_get (xs ++ ys) i ≡ slice_get xs i
slice_get-append_left [] ys i within = absurd (omega arith)
slice_get-append_left (x ∷ xs) ys zero within = refl
slice_get-append_left (x ∷ xs) ys (suc i) within = slice_get-append_left xs ys i (omega arith)

-- an element of the second list
pub slice_get-append_right : (xs ys : List ℕ) (i : ℕ) → slice_get (xs ++ ys) (length xs + i) ≡ slice_get ys i
slice_get-append_right [] ys i = let e : 0 + i ≡ i = omega arith in ap (slice_get ys) e
slice_get-append_right (x ∷ xs) ys i =
    let e : suc (length xs) + i ≡ suc (length xs + i) = omega arith in
    ap (slice_get (x ∷ (xs ++ ys))) e ∙ slice_get-append_right xs ys i

pub length-run_blocks : (r : Run) → length (run_blocks r) ≡ r.count
length-run_blocks r = length-range_with_len r.lbn r.count

-- block i of a run
pub slice_get-run_blocks : (r : Run) (i : ℕ) → i < r.count → slice_get (run_blocks r) i ≡ Some (r.lbn + i)
slice_get-run_blocks r i within =
    slice_get-get_or (run_blocks r) i 0 (let size = length-run_blocks r in omega arith) ∙ ap Some (get_or-range_with_len r.lbn r.count i 0 within)

-- the place is in this run
in_run : (blocks : List ℕ) (r : Run) (p : ℕ) → length blocks ≤ p → p < length blocks + r.count → Some (r.lbn + (p - length blocks)) ≡ slice_get (blocks ++ run_blocks r) p
in_run blocks r p low high =
    let place : p ≡ length blocks + (p - length blocks) = omega arith in
    sym (ap (slice_get (blocks ++ run_blocks r)) place ∙ slice_get-append_right blocks (run_blocks r) (p - length blocks) ∙ slice_get-run_blocks r (p - length blocks) (omega arith))

-- the place is before this run, or behind it
before_run : (blocks : List ℕ) (r : Run) (p : ℕ) → p < length blocks → slice_get blocks p ≡ slice_get (blocks ++ run_blocks r) p
before_run blocks r p low = sym (slice_get-append_left blocks (run_blocks r) p low)

behind_run : (blocks : List ℕ) (r : Run) (p : ℕ) → length blocks + r.count ≤ p → slice_get blocks p ≡ slice_get (blocks ++ run_blocks r) p
behind_run blocks r p high =
    slice_get_past blocks p (omega arith) ∙ sym (slice_get_past (blocks ++ run_blocks r) p (omega (arith, length-append blocks (run_blocks r), length-run_blocks r)))

pub length-with_run : (blocks : List ℕ) (r : Run) → length (blocks ++ run_blocks r) ≡ length blocks + r.count
length-with_run blocks r = omega (arith, length-append blocks (run_blocks r), length-run_blocks r)

-- the block that is looked for, with one run more
pub found_here : (blocks : List ℕ) (r : Run) (count wanted : ℕ) → count ≡ length blocks → count ≤ wanted → wanted < count + r.count → Some (r.lbn + (wanted - count)) ≡ slice_get (blocks ++ run_blocks r) wanted
found_here blocks r count wanted size low high = ap (λ n. Some (r.lbn + (wanted - n))) size ∙ in_run blocks r wanted (omega arith) (omega arith)

pub found_apart : (blocks : List ℕ) (r : Run) (found : Option ℕ) (count wanted : ℕ) → count ≡ length blocks → found ≡ slice_get blocks wanted → (wanted < count) ⊎ (count + r.count ≤ wanted)
    → found ≡ slice_get (blocks ++ run_blocks r) wanted
found_apart blocks r found count wanted size is apart = is ∙ elim apart [
  | inl low ↦ before_run blocks r wanted (omega arith)
  | inr high ↦ behind_run blocks r wanted (omega arith)
]

-- a run inside an image
pub run_inside : (r : Run) (n : ℕ) → r.lbn + r.count ≤ n → All (λ lbn. lbn < n) (run_blocks r)
run_inside r n inside k d within =
    let few : k < r.count = let size = length-run_blocks r in omega arith in
    rw (get_or-range_with_len r.lbn r.count k d few) (omega arith)

-- a block past an image of len blocks, with one run more
pub past_here : (blocks : List ℕ) (r : Run) (len lbn : ℕ) → 1 ≤ r.count → lbn ≡ r.lbn + r.count - 1 → len < r.lbn + r.count → IsPast len (blocks ++ run_blocks r) (Some lbn)
past_here blocks r len lbn some last past =
    let size = length-run_blocks r in
    let is : get_or (run_blocks r) (r.count - 1) lbn ≡ lbn = get_or-range_with_len r.lbn r.count (r.count - 1) lbn (omega arith) ∙ omega arith in
    (Contains-append_right blocks (run_blocks r) lbn (r.count - 1, omega arith, is), omega arith)

pub past_there : (blocks : List ℕ) (r : Run) (len lbn : ℕ) → IsPast len blocks (Some lbn) → IsPast len (blocks ++ run_blocks r) (Some lbn)
past_there blocks r len lbn before = (Contains-append_left blocks (run_blocks r) lbn before.0, before.1)

pub none_past : (blocks : List ℕ) (r : Run) (len : ℕ) → r.lbn + r.count ≤ len → IsPast len blocks None → IsPast len (blocks ++ run_blocks r) None
none_past blocks r len within before = All-append (λ lbn. lbn < len) blocks (run_blocks r) before (run_inside r len within)

-- the blocks of the first k pointers of a header
abbrev pub first_blocks : List ℕ → ℕ → List ℕ
first_blocks b k = flat_map run_blocks (take k (runs_of b))

pub first_blocks_more : (b : List ℕ) (k : ℕ) (r : Run) → slice_get (runs_of b) k ≡ Some r → first_blocks b (k + 1) ≡ first_blocks b k ++ run_blocks r
first_blocks_more b k r is =
    let within = slice_get_within (runs_of b) k r is in
    ap (flat_map run_blocks) (take_more (runs_of b) k r within ∙ ap (λ x. take k (runs_of b) ++ x ∷ []) (get_or_from_slice_get (runs_of b) k r r is))
    ∙ sym (flat_map_more run_blocks [] (take k (runs_of b)) r)

pub first_blocks_all : (b : List ℕ) (k : ℕ) → length (runs_of b) ≤ k → first_blocks b k ≡ blocks_of b
first_blocks_all b k all = ap (flat_map run_blocks) (take_all k (runs_of b) all)

-- what was met of the first k pointers of a header
pub record IsPassed (len wanted : ℕ) (s t : Survey) (b : List ℕ) (k : ℕ) : Type 0 where
  pub noted : (blocks : List ℕ) → IsSurveyOf len wanted s blocks → IsSurveyOf len wanted t (blocks ++ first_blocks b k)
  pub count : t.count ≤ s.count + 256 * k

pub one_more_passed : (len wanted : ℕ) (s t u : Survey) (b : List ℕ) (k : ℕ) (r : Run) → IsPassed len wanted s t b k → slice_get (runs_of b) k ≡ Some r
    → ((blocks : List ℕ) → IsSurveyOf len wanted t blocks → IsSurveyOf len wanted u (blocks ++ run_blocks r)) → u.count ≤ t.count + 256 → IsPassed len wanted s u b (k + 1)
one_more_passed len wanted s t u b k r before is noted count =
    let few = before.count in
    record {
      noted = λ blocks old. subst (IsSurveyOf len wanted u) (append_assoc blocks (first_blocks b k) (run_blocks r) ∙ ap (λ l. blocks ++ l) (sym (first_blocks_more b k r is)))
          (noted (blocks ++ first_blocks b k) (before.noted blocks old));
      count = omega arith;
    }

pub all_passed : (len wanted : ℕ) (s t : Survey) (b : List ℕ) (k : ℕ) → IsPassed len wanted s t b k → length (runs_of b) ≤ k → (blocks : List ℕ) → IsSurveyOf len wanted s blocks → IsSurveyOf len wanted t (blocks ++ blocks_of b)
all_passed len wanted s t b k passed all blocks old = subst (IsSurveyOf len wanted t) (ap (λ l. blocks ++ l) (first_blocks_all b k all)) (passed.noted blocks old)

-- one number more of a range
pub range_push : (a n : ℕ) → range_with_len a (n + 1) ≡ range_with_len a n ++ (a + n) ∷ []
range_push a n = sym (map-id (range_with_len a (n + 1))) ∙ map-range_with_len_more (λ (x : ℕ). x) a n (a + n) refl ∙ ap (λ l. l ++ (a + n) ∷ []) (map-id (range_with_len a n))
