-- Scans: from a number on, the least that passes a test, and the ones that were found so far.
use Rattle.std.proofs.Common.{◌≡◌, ℕ, zero, suc, ◌+◌, ◌-◌, ◌<◌, ◌≤◌, Bool, true, false, cond, List, [], ◌∷◌, ◌++◌, length, drop, take, get_or, refl, sym, ap, ◌∙◌, subst, arith, inl, inr}
use Rattle.std.specs.List.{filter, range_with_len}
use Rattle.std.proofs.lemmas.Bool.{cases_lt}
use Rattle.std.proofs.lemmas.List.{append-nil, append_assoc, drop-take, length_push, length-append, length-take, length-take-le, take_at, take_more}
use Rattle.std.proofs.Math.Seq.{drop-append_seam, get_or-append_seam}
use Rattle.std.proofs.lemmas.List.Elements.{filter-append}
use Rattle.std.proofs.lemmas.List.Sums.{length-filter, count_by-le-length}
use Rattle.std.proofs.lemmas.List.FromFn.{length-range_with_len}
use Rattle.ods_alloc.specs.Extend.{last_of}
use Rattle.ods_alloc.specs.Scan.{NonePasses, IsNext, NoneIsNext, start_behind}

pub range-append : (a m n : ℕ) → range_with_len a (m + n) ≡ range_with_len a m ++ range_with_len (a + m) n
range-append a zero n = let e : zero + n ≡ n = omega arith in let f : a ≡ a + 0 = omega arith in ap (range_with_len a) e ∙ ap (λ x. range_with_len x n) f
range-append a (suc m) n =
    let e : suc m + n ≡ suc (m + n) = omega arith in
    let f : (a + 1) + m ≡ a + suc m = omega arith in
    ap (range_with_len a) e ∙ ap (λ l. a ∷ l) (range-append (a + 1) m n ∙ ap (λ x. range_with_len (a + 1) m ++ range_with_len x n) f)

module _ (p : ℕ → Bool) where
  -- where none passes, nothing is kept
  pub filter_none : (a n : ℕ) → NonePasses p a (a + n) → filter p (range_with_len a n) ≡ []
  filter_none a zero none = refl
  filter_none a (suc n) none =
      let first : p a ≡ false = none a (omega arith) (omega arith) in
      rw first (filter_none (a + 1) n (λ k above below. none k (omega arith) (omega arith)))

  -- what is kept of a range is what is kept of its parts
  pub filter_cut : (a m n : ℕ) → filter p (range_with_len a (m + n)) ≡ filter p (range_with_len a m) ++ filter p (range_with_len (a + m) n)
  filter_cut a m n = ap (filter p) (range-append a m n) ∙ filter-append p (range_with_len a m) (range_with_len (a + m) n)

  -- what does not pass is passed over
  pub filter_over : (a b n : ℕ) → a ≤ b → NonePasses p a b → filter p (range_with_len a ((b - a) + n)) ≡ filter p (range_with_len b n)
  filter_over a b n order none =
      let place : a + (b - a) ≡ b = omega arith in
      filter_cut a (b - a) n
      ∙ ap (λ l. l ++ filter p (range_with_len (a + (b - a)) n)) (filter_none a (b - a) (λ k above below. none k above (omega arith)))
      ∙ ap (λ x. filter p (range_with_len x n)) place

  pub filter_few : (a n : ℕ) → length (filter p (range_with_len a n)) ≤ n
  filter_few a n = omega (arith, length-filter p (range_with_len a n), count_by-le-length p (range_with_len a n), length-range_with_len a n)

  -- how many pass, part by part
  pub count_cut : (m n : ℕ) → length (filter p (range_with_len 0 (m + n))) ≡ length (filter p (range_with_len 0 m)) + length (filter p (range_with_len m n))
  count_cut m n =
      let place : 0 + m ≡ m = omega arith in
      ap length (filter_cut 0 m n) ∙ length-append (filter p (range_with_len 0 m)) (filter p (range_with_len (0 + m) n))
      ∙ ap (λ x. length (filter p (range_with_len 0 m)) + length (filter p (range_with_len x n))) place

  -- beyond the last that passes no more are counted
  pub count_all : (n m : ℕ) → n ≤ m → NoneIsNext p n → length (filter p (range_with_len 0 m)) ≡ length (filter p (range_with_len 0 n))
  count_all n m order none =
      let whole : m ≡ n + (m - n) = omega arith in
      let rest : length (filter p (range_with_len n (m - n))) ≡ 0 = ap length (filter_none n (m - n) (λ k above below. none k above)) in
      ap (λ x. length (filter p (range_with_len 0 x))) whole ∙ omega (arith, count_cut n (m - n), rest)

-- one scan goes on where another ended
pub further : (p : ℕ → Bool) (a b c : ℕ) → NonePasses p a b → NonePasses p b c → NonePasses p a c
further p a b c first second k above below = elim (cases_lt k b) [ inl h ↦ first k above h | inr h ↦ second k h below ]

pub next_further : (p : ℕ → Bool) (a b n : ℕ) → a ≤ b → NonePasses p a b → IsNext p b n → IsNext p a n
next_further p a b n order none next = let above = next.above in record { above = omega arith; passes = next.passes; least = further p a b n none next.least }

-- a scan of the numbers one less
pub one_less : (p : ℕ → Bool) (a b : ℕ) → 1 ≤ a → NonePasses (λ n. p (n + 1)) (a - 1) b → NonePasses p a (b + 1)
one_less p a b some none k above below = let place : k ≡ (k - 1) + 1 = omega arith in ap p place ∙ none (k - 1) (omega arith) (omega arith)

-- Of n numbers from `start` on, the first k that pass are these, and they stand below `from`.
pub record AreFound (p : ℕ → Bool) (start n : ℕ) (found : List ℕ) (from k : ℕ) : Type 0 where
  pub low : start ≤ from
  pub high : from ≤ start + n
  pub few : start + k ≤ from
  pub count : length found ≡ k
  pub whole : found ++ filter p (range_with_len from (start + n - from)) ≡ filter p (range_with_len start n)

module _ (p : ℕ → Bool) (start n : ℕ) where
  pub none_found : (found : List ℕ) → found ≡ [] → AreFound p start n found start 0
  none_found found none = record {
    low = omega arith;
    high = omega arith;
    few = omega arith;
    count = ap length none;
    whole = let e : start + n - start ≡ n = omega arith in ap (λ l. l ++ filter p (range_with_len start (start + n - start))) none ∙ ap (λ x. filter p (range_with_len start x)) e;
  }

  pub one_more_found : (found more : List ℕ) (from k x : ℕ) → x < start + n → AreFound p start n found from k → IsNext p from x → more ≡ found ++ x ∷ [] → AreFound p start n more (x + 1) (k + 1)
  one_more_found found more from k x within before next pushed =
      let above = next.above in
      let low = before.low in
      let few = before.few in
      let rest : start + n - from ≡ (x - from) + suc (start + n - (x + 1)) = omega arith in
      let kept : filter p (range_with_len from (start + n - from)) ≡ x ∷ filter p (range_with_len (x + 1) (start + n - (x + 1))) =
      ap (λ m. filter p (range_with_len from m)) rest ∙ filter_over p from x (suc (start + n - (x + 1))) next.above next.least ∙ rw next.passes refl in
      record {
        low = omega arith;
        high = omega arith;
        few = omega arith;
        count = ap length pushed ∙ length_push found x ∙ ap (λ m. m + 1) before.count;
        whole = ap (λ l. l ++ filter p (range_with_len (x + 1) (start + n - (x + 1)))) pushed ∙ append_assoc found (x ∷ []) (filter p (range_with_len (x + 1) (start + n - (x + 1))))
            ∙ ap (λ l. found ++ l) (sym kept) ∙ before.whole;
      }

  -- no more pass
  pub all_found : (found : List ℕ) (from k : ℕ) → AreFound p start n found from k → NoneIsNext p from → k ≡ length (filter p (range_with_len start n))
  all_found found from k before none =
      sym before.count ∙ ap length (sym (append-nil found) ∙ ap (λ l. found ++ l) (sym (filter_none p from (start + n - from) (λ j above below. none j above))) ∙ before.whole)

  -- there are as many, and these are the first of them
  pub found_first : (found : List ℕ) (from k count : ℕ) → AreFound p start n found from k → k ≡ count → (found ≡ take count (filter p (range_with_len start n))) × (count ≤ length (filter p (range_with_len start n)))
  found_first found from k count before enough =
      let rest : List ℕ = filter p (range_with_len from (start + n - from)) in
      let size : length found ≡ count = before.count ∙ enough in
      (sym (take_at found rest count size) ∙ ap (take count) before.whole, omega (arith, length-append found rest, ap length before.whole))

-- the first that is kept of a range is the next that passes
first_is_next : (p : ℕ → Bool) (a m y : ℕ) (ys : List ℕ) → filter p (range_with_len a m) ≡ y ∷ ys → IsNext p a y × (y < a + m)
first_is_next p a zero y ys is = absurd (cc)
first_is_next p a (suc m) y ys is = by (p a) refl (first_is_next p (a + 1) m y ys) is
  where
    by : (b : Bool) → p a ≡ b → (filter p (range_with_len (a + 1) m) ≡ y ∷ ys → IsNext p (a + 1) y × (y < a + 1 + m))
        → cond b (a ∷ filter p (range_with_len (a + 1) m)) (filter p (range_with_len (a + 1) m)) ≡ y ∷ ys → IsNext p a y × (y < a + suc m)
    by true passes later same =
        let at : a ≡ y = cc in
        (record { above = omega (arith, at); passes = ap p (sym at) ∙ passes; least = λ k above below. absurd (omega (arith, at)) }, omega (arith, at))
    by false passed later same =
        let rest = later same in
        let within = rest.1 in
        (next_further p a (a + 1) y (omega arith) (λ k above below. let at : k ≡ a = omega arith in ap p at ∙ passed) rest.0, omega (arith, within))

-- the last of a list, by its place
pub last_at : (d : ℕ) (xs : List ℕ) → 1 ≤ length xs → get_or xs (length xs - 1) 0 ≡ last_of d xs
last_at d [] some = absurd (omega arith)
last_at d (x ∷ []) some = refl
last_at d (x ∷ y ∷ ys) some =
    let next : length (x ∷ y ∷ ys) - 1 ≡ suc (length (y ∷ ys) - 1) = omega arith in
    ap (λ k. get_or (x ∷ y ∷ ys) k 0) next ∙ last_at x (y ∷ ys) (omega arith)

-- a scan goes on behind the last
pub behind_last : (xs : List ℕ) → 1 ≤ length xs → get_or xs (length xs - 1) 0 + 1 ≡ start_behind xs
behind_last [] some = absurd (omega arith)
behind_last (x ∷ xs) some = ap (λ k. k + 1) (last_at x (x ∷ xs) some)

behind_pushed : (xs : List ℕ) (y : ℕ) → start_behind (xs ++ y ∷ []) ≡ y + 1
behind_pushed [] y = refl
behind_pushed (x ∷ xs) y = ap (λ k. k + 1) (last x xs)
  where
    last : (z : ℕ) (zs : List ℕ) → last_of z (zs ++ y ∷ []) ≡ y
    last z [] = refl
    last z (w ∷ ws) = last w ws

-- of all that pass the first k are found, by a scan that has come behind the last of them
abbrev IsFirst : (ℕ → Bool) → ℕ → ℕ → Type 0
IsFirst p n k = AreFound p 0 n (take k (filter p (range_with_len 0 n))) (start_behind (take k (filter p (range_with_len 0 n)))) k

one_more_first : (p : ℕ → Bool) (n k : ℕ) → k < length (filter p (range_with_len 0 n)) → IsFirst p n k → IsFirst p n (k + 1)
one_more_first p n k less before = by (filter p (range_with_len from (0 + n - from))) refl before.whole
  where
    all : List ℕ
    all = filter p (range_with_len 0 n)

    found : List ℕ
    found = take k all

    from : ℕ
    from = start_behind found

    size : length found ≡ k
    size = length-take-le k all (omega (arith, less))

    by : (rest : List ℕ) → filter p (range_with_len from (0 + n - from)) ≡ rest → found ++ rest ≡ all → IsFirst p n (k + 1)
    by [] none whole = absurd (omega (arith, less, size, ap length whole, length-append found []))
    by (y ∷ ys) is whole =
        let next = first_is_next p from (0 + n - from) y ys is in
        let below = next.1 in
        let high = before.high in
        let here : get_or all k 0 ≡ y = ap (λ l. get_or l k 0) (sym whole) ∙ ap (λ j. get_or (found ++ y ∷ ys) j 0) (sym size) ∙ get_or-append_seam found y ys 0 in
        let more : take (k + 1) all ≡ found ++ y ∷ [] = take_more all k 0 less ∙ ap (λ z. found ++ z ∷ []) here in
        subst (λ j. AreFound p 0 n (take (k + 1) all) j (k + 1)) (sym (ap start_behind more ∙ behind_pushed found y))
        (one_more_found p 0 n found (take (k + 1) all) from k y (omega (arith, below, high)) before next.0 more)

pub first_found : (p : ℕ → Bool) (n k : ℕ) → k ≤ length (filter p (range_with_len 0 n)) → IsFirst p n k
first_found p n zero few = none_found p 0 n [] refl
first_found p n (suc k) few =
    let next : k + 1 ≡ suc k = omega arith in
    subst (IsFirst p n) next (one_more_first p n k (omega (arith, few)) (first_found p n k (omega (arith, few))))

-- and a scan that goes on there has found them
pub start_found : (p : ℕ → Bool) (n : ℕ) (lowest picked : List ℕ) (from : ℕ) → lowest ≡ take (length lowest) (filter p (range_with_len 0 n)) → picked ≡ [] → from ≡ start_behind lowest
    → AreFound p 0 n (lowest ++ picked) from (length lowest + 0)
start_found p n lowest picked from is none at =
    let all : List ℕ = filter p (range_with_len 0 n) in
    let few : length lowest ≤ length all = omega (arith, ap length is, length-take (length lowest) all) in
    let count : length lowest ≡ length lowest + 0 = omega arith in
    subst (λ j. AreFound p 0 n (lowest ++ picked) j (length lowest + 0)) (sym at)
    (subst (λ l. AreFound p 0 n l (start_behind lowest) (length lowest + 0)) (sym (ap (λ l. lowest ++ l) none ∙ append-nil lowest))
    (subst (AreFound p 0 n lowest (start_behind lowest)) count
    (subst (λ l. AreFound p 0 n l (start_behind l) (length lowest)) (sym is) (first_found p n (length lowest) few))))

-- those that are picked behind the first that pass
pub picked_behind : (lowest picked all : List ℕ) (count : ℕ) → lowest ++ picked ≡ take (length lowest + count) all → picked ≡ take count (drop (length lowest) all)
picked_behind lowest picked all count is = sym (drop-append_seam lowest picked) ∙ ap (drop (length lowest)) is ∙ drop-take (length lowest) count all
