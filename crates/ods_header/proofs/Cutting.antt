-- The pointers of the first blocks of a header, found one by one, and the block that has just these.
use Rattle.std.proofs.Common.{◌≡◌, ◌≢◌, ℕ, zero, suc, ◌+◌, ◌-◌, ◌*◌, ◌/◌, ◌<◌, ◌≤◌, cond, List, [], ◌∷◌, ◌++◌, length, take, drop, map, Some, inl, inr, refl, sym, ap, ◌∙◌, subst, arith, nat_le}
use Rattle.std.specs.Prelude.{◌⊎◌, slice_get}
use Rattle.std.specs.List.{All, flat_map, range_with_len}
use Rattle.std.proofs.Math.ListN.{drop_of_length-le}
use Rattle.std.proofs.Math.Seq.{take-append-add, take-nil}
use Rattle.std.proofs.lemmas.Bool.{cases_eq, cases_lt, le-leb, ne_eqb}
use Rattle.std.proofs.lemmas.Option.{get_or_from_slice_get, slice_get_within}
use Rattle.std.proofs.lemmas.List.{append-nil, append_assoc, length-append, length-take}
use Rattle.std.proofs.lemmas.List.FromFn.{length-range_with_len, take-map-range_with_len}
use borrow.Author.Tests.{lt-leb}
use Rattle.ods_base.specs.Block.{IsBlock, byte, word, with_bytes, sum_of}
use Rattle.ods_base.proofs.Blocks.{byte-with_bytes, byte-with_bytes_before, byte-with_bytes_behind}
use Rattle.ods_header.specs.declared.header.Run.{Run}
use Rattle.ods_header.specs.Header.{IsLaidOut, IsValidHeader, map_word, run_at, run_blocks, runs_of, used_words_of}
use Rattle.ods_header.specs.Writing.{with_sum}
use Rattle.ods_header.specs.Pointing.{KeepsFields}
use Rattle.ods_header.specs.Cutting.{IsCutEnd, IsCutTo, first_runs}
use Rattle.ods_header.proofs.HeaderPlaces.{range_append, map_append, map_alike, run_stays, stays_valid}
use Rattle.ods_header.proofs.RunsAt.{length-runs_of, slice_get-runs_of}
use Rattle.ods_header.proofs.Summed.{before_sum, sum_is_right}

-- no block has no run
pub none_first : (rs : List Run) → first_runs 0 rs ≡ []
none_first [] = refl
none_first (r ∷ rs) = refl

-- a run that is wanted whole, or in part
pub whole_run : (left : ℕ) (r : Run) (rs : List Run) → left ≢ 0 → r.count ≤ left → first_runs left (r ∷ rs) ≡ r ∷ first_runs (left - r.count) rs
whole_run left r rs some fits =
    ap (λ z. cond z [] (cond (nat_le r.count left) (r ∷ first_runs (left - r.count) rs) (record { lbn = r.lbn; count = left } ∷ []))) (ne_eqb left 0 some)
    ∙ ap (λ l. cond l (r ∷ first_runs (left - r.count) rs) (record { lbn = r.lbn; count = left } ∷ [])) (le-leb r.count left fits)

pub part_run : (left : ℕ) (r : Run) (rs : List Run) → left ≢ 0 → left < r.count → first_runs left (r ∷ rs) ≡ record { lbn = r.lbn; count = left } ∷ []
part_run left r rs some short =
    ap (λ z. cond z [] (cond (nat_le r.count left) (r ∷ first_runs (left - r.count) rs) (record { lbn = r.lbn; count = left } ∷ []))) (ne_eqb left 0 some)
    ∙ ap (λ l. cond l (r ∷ first_runs (left - r.count) rs) (record { lbn = r.lbn; count = left } ∷ [])) (lt-leb r.count left short)

-- the rest of a list begins with the run that is found
pub rest_from : (rs : List Run) (k : ℕ) (r : Run) → slice_get rs k ≡ Some r → drop k rs ≡ r ∷ drop (k + 1) rs
rest_from (x ∷ xs) zero r e = let is : x ≡ r = cc in ap (λ y. y ∷ xs) is
rest_from (x ∷ xs) (suc k) r e =
    let next : suc (k + 1) ≡ suc k + 1 = omega arith in
    rest_from xs k r e ∙ ap (λ n. r ∷ drop n (x ∷ xs)) next
rest_from [] k r e = absurd (let within = slice_get_within [] k r e in omega arith)

pub one_longer : (rs : List Run) (k : ℕ) (r : Run) → slice_get rs k ≡ Some r → take (k + 1) rs ≡ take k rs ++ r ∷ []
one_longer (x ∷ xs) zero r e = let is : x ≡ r = cc in ap (λ y. y ∷ []) is
one_longer (x ∷ xs) (suc k) r e =
    let next : suc k + 1 ≡ suc (k + 1) = omega arith in
    ap (λ n. take n (x ∷ xs)) next ∙ ap (λ l. x ∷ l) (one_longer xs k r e)
one_longer [] k r e = absurd (let within = slice_get_within [] k r e in omega arith)

pub one_whole : (rs : List Run) (count left k : ℕ) (r : Run) → first_runs count rs ≡ take k rs ++ first_runs left (drop k rs) → slice_get rs k ≡ Some r → left ≢ 0 → r.count ≤ left
    → first_runs count rs ≡ take (k + 1) rs ++ first_runs (left - r.count) (drop (k + 1) rs)
one_whole rs count left k r before found some fits =
    before ∙ ap (λ l. take k rs ++ first_runs left l) (rest_from rs k r found) ∙ ap (λ l. take k rs ++ l) (whole_run left r (drop (k + 1) rs) some fits)
    ∙ sym (append_assoc (take k rs) (r ∷ []) (first_runs (left - r.count) (drop (k + 1) rs)))
    ∙ sym (ap (λ l. l ++ first_runs (left - r.count) (drop (k + 1) rs)) (one_longer rs k r found))

-- where nothing more is wanted, or no run is left, these are all
pub all_whole : (rs : List Run) (count left k : ℕ) → first_runs count rs ≡ take k rs ++ first_runs left (drop k rs) → (left ≡ 0) ⊎ (length rs ≤ k) → first_runs count rs ≡ take k rs
all_whole rs count left k before (inl none) =
    before ∙ ap (λ n. take k rs ++ first_runs n (drop k rs)) none ∙ ap (λ l. take k rs ++ l) (none_first (drop k rs)) ∙ append-nil (take k rs)
all_whole rs count left k before (inr end) =
    before ∙ ap (λ l. take k rs ++ first_runs left l) (drop_of_length-le rs end) ∙ append-nil (take k rs)

pub last_part : (rs : List Run) (count left k : ℕ) (r : Run) → first_runs count rs ≡ take k rs ++ first_runs left (drop k rs) → slice_get rs k ≡ Some r → left ≢ 0 → left < r.count
    → first_runs count rs ≡ take k rs ++ record { lbn = r.lbn; count = left } ∷ []
last_part rs count left k r before found some short =
    before ∙ ap (λ l. take k rs ++ first_runs left l) (rest_from rs k r found) ∙ ap (λ l. take k rs ++ l) (part_run left r (drop (k + 1) rs) some short)

-- the first pointers of a header
first_of : (b : List ℕ) (k : ℕ) → k ≤ length (runs_of b) → take k (runs_of b) ≡ map (run_at b) (range_with_len 0 k)
unfolding runs_of
first_of b k few = take-map-range_with_len (run_at b) 0 (used_words_of b / 2) k (omega (arith, few, length-runs_of b))

-- how many there are of them
few_ends : (b : List ℕ) (count pointers last : ℕ) → IsCutEnd b count pointers last → pointers ≤ length (runs_of b)
few_ends b count pointers last (inl all) = all.0
few_ends b count pointers last (inr part) = omega (arith, part.1, part.2)

ends_long : (b : List ℕ) (count pointers last : ℕ) → IsCutEnd b count pointers last → length (first_runs count (runs_of b)) ≡ pointers
ends_long b count pointers last (inl all) = ap length all.1 ∙ length-take pointers (runs_of b) ∙ omega (arith, all.0)
ends_long b count pointers last (inr part) = ap length part.3 ∙ omega (arith, length-append (take part.0 (runs_of b)) (record { lbn = (run_at b part.0).lbn; count = last + 1 } ∷ []), length-take part.0 (runs_of b), part.1, part.2)

-- the blocks between the steps of cutting
pub record AreCutSteps (b b1 b2 b3 c : List ℕ) (count pointers last : ℕ) : Type 0 where
  pub laid : IsLaidOut b
  pub end : IsCutEnd b count pointers last
  pub block0 : IsBlock b
  pub block1 : IsBlock b1
  pub block2 : IsBlock b2
  pub block3 : IsBlock b3
  pub block4 : IsBlock c
  pub linked : b1 ≡ with_bytes b (2 * map_word b + 2) (0 ∷ 0 ∷ 0 ∷ 0 ∷ [])
  pub ended : b2 ≡ with_bytes b1 (2 * map_word b + 7 + 4 * pointers) (last ∷ [])
  pub counted : b3 ≡ with_bytes b2 (2 * map_word b + 8) ((2 * pointers) ∷ [])
  pub sum : c ≡ with_sum b3

-- one byte that is written, and the others
one_byte : (b c : List ℕ) (at x i : ℕ) → length b ≡ 512 → at < 512 → c ≡ with_bytes b at (x ∷ []) → i ≢ at → byte c i ≡ byte b i
one_byte b c at x i size low is other = ap (λ l. byte l i) is ∙ elim (cases_lt i at) [
  | inl before ↦ byte-with_bytes_before b (x ∷ []) at i (omega arith) before
  | inr after ↦ byte-with_bytes_behind b (x ∷ []) at i (omega arith) (omega (arith, after, other))
]

module _ (b b1 b2 b3 c : List ℕ) (count pointers last : ℕ) (s : AreCutSteps b b1 b2 b3 c count pointers last) where
  abbrev at0 : ℕ
  at0 = 2 * map_word b

  few : pointers ≤ used_words_of b / 2
  few = omega (arith, few_ends b count pointers last s.end, length-runs_of b)

  inside : at0 + 10 + 4 * pointers ≤ 510
  inside = let f = few in let fits = s.laid.fits in omega arith

  -- all bytes but those that are written
  others : (i : ℕ) → i < 510 → (i < at0 + 2) ⊎ (at0 + 6 ≤ i) → i ≢ at0 + 8 → i ≢ at0 + 7 + 4 * pointers → byte c i ≡ byte b i
  others i below apart uses end =
      let p = inside in
      before_sum b3 c i s.sum below
      ∙ one_byte b2 b3 (at0 + 8) (2 * pointers) i s.block2.size (omega arith) s.counted uses
      ∙ one_byte b1 b2 (at0 + 7 + 4 * pointers) last i s.block1.size (omega arith) s.ended end
      ∙ ap (λ l. byte l i) s.linked
      ∙ elim apart [
        | inl low ↦ byte-with_bytes_before b (0 ∷ 0 ∷ 0 ∷ 0 ∷ []) (at0 + 2) i (let size = s.block0.size in omega arith) low
        | inr high ↦ byte-with_bytes_behind b (0 ∷ 0 ∷ 0 ∷ 0 ∷ []) (at0 + 2) i (let size = s.block0.size in omega arith) (omega arith)
      ]

  -- and those
  link_at : (j : ℕ) → j < 4 → byte c (at0 + 2 + j) ≡ byte (0 ∷ 0 ∷ 0 ∷ 0 ∷ []) j
  link_at j small =
      let p = inside in let size = s.block0.size in
      before_sum b3 c (at0 + 2 + j) s.sum (omega arith)
      ∙ one_byte b2 b3 (at0 + 8) (2 * pointers) (at0 + 2 + j) s.block2.size (omega arith) s.counted (λ e. absurd (omega arith))
      ∙ one_byte b1 b2 (at0 + 7 + 4 * pointers) last (at0 + 2 + j) s.block1.size (omega arith) s.ended (λ e. absurd (omega arith))
      ∙ ap (λ l. byte l (at0 + 2 + j)) s.linked
      ∙ byte-with_bytes b (0 ∷ 0 ∷ 0 ∷ 0 ∷ []) (at0 + 2) (at0 + 2 + j) j (omega arith) refl small

  end_at : byte c (at0 + 7 + 4 * pointers) ≡ last
  end_at =
      let p = inside in let size = s.block1.size in
      before_sum b3 c (at0 + 7 + 4 * pointers) s.sum (omega arith)
      ∙ one_byte b2 b3 (at0 + 8) (2 * pointers) (at0 + 7 + 4 * pointers) s.block2.size (omega arith) s.counted (λ e. absurd (omega arith))
      ∙ ap (λ l. byte l (at0 + 7 + 4 * pointers)) s.ended
      ∙ byte-with_bytes b1 (last ∷ []) (at0 + 7 + 4 * pointers) (at0 + 7 + 4 * pointers) 0 (omega arith) (omega arith) (omega arith)

  count_at : byte c (at0 + 8) ≡ 2 * pointers
  count_at =
      let p = inside in let size = s.block2.size in
      before_sum b3 c (at0 + 8) s.sum (omega arith)
      ∙ ap (λ l. byte l (at0 + 8)) s.counted
      ∙ byte-with_bytes b2 ((2 * pointers) ∷ []) (at0 + 8) (at0 + 8) 0 (omega arith) (omega arith) (omega arith)

  -- with no pointer the byte before them is written as it is
  end_same : (i : ℕ) → pointers ≡ 0 → i ≡ at0 + 7 → byte c i ≡ byte b i
  end_same i none here = by s.end
    where
      by : IsCutEnd b count pointers last → byte c i ≡ byte b i
      by (inl all) = ap (byte c) (omega (arith, none, here)) ∙ end_at ∙ all.2 ∙ ap (byte b) (omega (arith, none, here))
      by (inr part) = absurd (omega (arith, none, part.2))

  form_at : (i : ℕ) → i < 510 → (i < at0 + 2) ⊎ (i ≡ at0 + 6) ⊎ (i ≡ at0 + 7) ⊎ (i ≡ at0 + 9) ⊎ ((at0 + 10 ≤ i) × (i ≢ at0 + 7 + 4 * pointers)) → byte c i ≡ byte b i
  form_at i below (inl a) = others i below (inl a) (λ e. absurd (omega (arith, a, e))) (λ e. absurd (omega (arith, a, e)))
  form_at i below (inr (inl a)) = others i below (inr (omega arith)) (λ e. absurd (omega (arith, a, e))) (λ e. absurd (omega (arith, a, e)))
  form_at i below (inr (inr (inl a))) = elim (cases_eq pointers 0) [
    | inl none ↦ end_same i none a
    | inr some ↦ others i below (inr (omega arith)) (λ e. absurd (omega (arith, a, e))) (λ e. absurd (omega (arith, a, e, some)))
  ]
  form_at i below (inr (inr (inr (inl a)))) = others i below (inr (omega arith)) (λ e. absurd (omega (arith, a, e))) (λ e. absurd (omega (arith, a, e)))
  form_at i below (inr (inr (inr (inr a)))) = let from = a.0 in others i below (inr (omega arith)) (λ e. absurd (omega (arith, from, e))) a.1

  pub cut_keeps : KeepsFields b c
  cut_keeps i (inl a) = let p = inside in form_at i (omega arith) (inl (omega arith))
  cut_keeps i (inr (inl a)) = let p = inside in form_at i (omega arith) (inr (inl a))
  cut_keeps i (inr (inr (inl a))) = let p = inside in form_at i (omega arith) (inr (inr (inl a)))
  cut_keeps i (inr (inr (inr a))) = let p = inside in form_at i (omega arith) (inr (inr (inr (inl a))))

  map_is : map_word c ≡ map_word b
  map_is = let q = s.laid.map in cut_keeps 1 (inl (omega arith))

  used_is : used_words_of c ≡ 2 * pointers
  used_is = ap (λ m. byte c (2 * m + 8)) map_is ∙ count_at

  total : word c 255 ≡ sum_of c 255
  total = sum_is_right b3 c s.block3.size s.sum

  -- a pointer that is not the last stays, and so does each where the last maps what it did
  stays_at : (k : ℕ) → k < pointers → (k + 1 ≢ pointers) ⊎ (last ≡ byte b (at0 + 7 + 4 * pointers)) → run_at c k ≡ run_at b k
  stays_at k low how = run_stays b c k map_is (λ i small. by i small how (cases_eq (at0 + 10 + 4 * k + i) (at0 + 7 + 4 * pointers)))
    where
      by : (i : ℕ) → i < 4 → (k + 1 ≢ pointers) ⊎ (last ≡ byte b (at0 + 7 + 4 * pointers)) → (at0 + 10 + 4 * k + i ≡ at0 + 7 + 4 * pointers) ⊎ (at0 + 10 + 4 * k + i ≢ at0 + 7 + 4 * pointers)
          → byte c (at0 + 10 + 4 * k + i) ≡ byte b (at0 + 10 + 4 * k + i)
      by i small (inl other) (inl e) = absurd (omega (arith, small, e, other))
      by i small (inr same) (inl e) = ap (byte c) e ∙ end_at ∙ same ∙ ap (byte b) (sym e)
      by i small h (inr e) = let p = inside in form_at (at0 + 10 + 4 * k + i) (omega arith) (inr (inr (inr (inr (omega arith, e)))))

  cut_at : (k : ℕ) → pointers ≡ k + 1 → run_at c k ≡ record { lbn = (run_at b k).lbn; count = last + 1 }
  cut_at k e =
      let p = inside in
      let at : (i : ℕ) → i < 4 → i ≢ 1 → byte c (at0 + 10 + 4 * k + i) ≡ byte b (at0 + 10 + 4 * k + i) = λ i small other. form_at (at0 + 10 + 4 * k + i) (omega (arith, small, e, p)) (inr (inr (inr (inr (omega arith, λ f. other (omega (arith, e, f))))))) in
      let m = map_is in
      let high : byte c (2 * map_word c + 10 + 4 * k) ≡ byte b (2 * map_word b + 10 + 4 * k) = ap (byte c) (omega arith) ∙ at 0 (omega arith) (λ f. absurd (omega arith)) ∙ ap (byte b) (omega arith) in
      let size : byte c (2 * map_word c + 11 + 4 * k) ≡ last = ap (byte c) (omega arith) ∙ end_at in
      let first : byte c (2 * (map_word c + 6 + 2 * k)) ≡ byte b (2 * (map_word b + 6 + 2 * k)) = ap (byte c) (omega arith) ∙ at 2 (omega arith) (λ f. absurd (omega arith)) ∙ ap (byte b) (omega arith) in
      let second : byte c (2 * (map_word c + 6 + 2 * k) + 1) ≡ byte b (2 * (map_word b + 6 + 2 * k) + 1) = ap (byte c) (omega arith) ∙ at 3 (omega arith) (λ f. absurd (omega arith)) ∙ ap (byte b) (omega arith) in
      λ i. record { lbn = 65536 * high i + (first i + 256 * second i); count = size i + 1 }

  pub runs_are : runs_of c ≡ first_runs count (runs_of b)
  unfolding runs_of
  runs_are = ap (λ n. map (run_at c) (range_with_len 0 n)) (omega (arith, used_is)) ∙ by s.end
    where
      by : IsCutEnd b count pointers last → map (run_at c) (range_with_len 0 pointers) ≡ first_runs count (runs_of b)
      by (inl all) =
          map_alike (run_at c) (run_at b) pointers 0 (λ k low. stays_at k (omega (arith, low)) (inr all.2))
          ∙ sym (all.1 ∙ first_of b pointers all.0)
      by (inr part) =
          let k : ℕ = part.0 in
          let here : k ≡ 0 + k = omega arith in
          ap (λ n. map (run_at c) (range_with_len 0 n)) part.2
          ∙ ap (map (run_at c)) (range_append 0 k 1)
          ∙ map_append (run_at c) (range_with_len 0 k) ((0 + k) ∷ [])
          ∙ ap (λ l. l ++ run_at c (0 + k) ∷ []) (map_alike (run_at c) (run_at b) k 0 (λ j low. stays_at j (omega (arith, low, part.2)) (inl (λ e. absurd (omega (arith, low, e, part.2))))))
          ∙ ap (λ x. map (run_at b) (range_with_len 0 k) ++ x ∷ []) (ap (run_at c) (sym here) ∙ cut_at k part.2)
          ∙ sym (part.3 ∙ ap (λ l. l ++ record { lbn = (run_at b k).lbn; count = last + 1 } ∷ []) (first_of b k (omega (arith, part.1))))

  pub is_cut : IsCutTo b (first_runs count (runs_of b)) c
  is_cut =
      let long = ends_long b count pointers last s.end in
      let m = map_is in
      let low1 : byte c (2 * (map_word c + 1)) ≡ 0 = ap (byte c) (omega arith) ∙ link_at 0 (omega arith) in
      let high1 : byte c (2 * (map_word c + 1) + 1) ≡ 0 = ap (byte c) (omega arith) ∙ link_at 1 (omega arith) in
      let low2 : byte c (2 * (map_word c + 2)) ≡ 0 = ap (byte c) (omega arith) ∙ link_at 2 (omega arith) in
      let high2 : byte c (2 * (map_word c + 2) + 1) ≡ 0 = ap (byte c) (omega arith) ∙ link_at 3 (omega arith) in
      record {
        size = s.block4.size ∙ sym s.block0.size;
        pointers = runs_are;
        used = omega (arith, used_is, long);
        number = omega arith;
        sequence = omega arith;
        checksum = total;
        others = λ i below h. subst (λ n. (i < at0 + 2) ⊎ (i ≡ at0 + 6) ⊎ (i ≡ at0 + 7) ⊎ (i ≡ at0 + 9) ⊎ ((at0 + 10 ≤ i) × (i ≢ at0 + 7 + 4 * n)) → byte c i ≡ byte b i) (sym long) (form_at i below) h;
      }

  pub cut_valid : (n : ℕ) → IsValidHeader b n → IsValidHeader c n
  cut_valid n v = stays_valid b c s.laid (record {
    fields = cut_keeps;
    checksum = total;
    even = let u = used_is in omega arith;
    room = let u = used_is in let f = few in let r = s.laid.room in omega arith;
    fits = let u = used_is in inside_used;
  }) n v
    where
      inside_used : 2 * map_word b + 10 + 2 * used_words_of c ≤ 510
      inside_used = omega (arith, used_is, inside)

-- the place of the last count byte is in the block
pub end_inside : (b : List ℕ) (count pointers last : ℕ) → IsLaidOut b → IsCutEnd b count pointers last → 2 * map_word b + 10 + 4 * pointers ≤ 510
end_inside b count pointers last laid end =
    let few : pointers ≤ used_words_of b / 2 = omega (arith, few_ends b count pointers last end, length-runs_of b) in
    let fits = laid.fits in
    omega arith

-- The blocks of the first runs are the first blocks.
-- a range, and the first numbers of it
first_range : (a n m : ℕ) (rest : List ℕ) → n ≤ m → take n (range_with_len a m ++ rest) ≡ range_with_len a n
first_range a zero m rest low = refl
first_range a (suc n) zero rest low = absurd (omega arith)
first_range a (suc n) (suc m) rest low = ap (λ l. a ∷ l) (first_range (a + 1) n m rest (omega arith))

pub first_blocks : (count : ℕ) (rs : List Run) → flat_map run_blocks (first_runs count rs) ≡ take count (flat_map run_blocks rs)
first_blocks count [] = sym (take-nil count)
first_blocks count (r ∷ rs) = elim (cases_eq count 0) [
  | inl none ↦ ap (λ n. flat_map run_blocks (first_runs n (r ∷ rs))) none ∙ sym (ap (λ n. take n (flat_map run_blocks (r ∷ rs))) none)
  | inr some ↦ elim (cases_lt count r.count) [
    | inl short ↦ ap (flat_map run_blocks) (part_run count r rs some short) ∙ append-nil (range_with_len r.lbn count) ∙ sym (first_range r.lbn count r.count (flat_map run_blocks rs) (omega (arith, short)))
    | inr fits ↦ ap (flat_map run_blocks) (whole_run count r rs some fits) ∙ ap (λ l. run_blocks r ++ l) (first_blocks (count - r.count) rs)
        ∙ sym (take-append-add (run_blocks r) (flat_map run_blocks rs) (count - r.count))
        ∙ ap (λ n. take n (run_blocks r ++ flat_map run_blocks rs)) (omega (arith, length-range_with_len r.lbn r.count, fits))
  ]
]

-- runs that all are wanted whole, before others
pub first_behind : (count : ℕ) (rs more : List Run) → All (λ (r : Run). 1 ≤ r.count) rs → length (flat_map run_blocks rs) ≤ count
    → first_runs count (rs ++ more) ≡ rs ++ first_runs (count - length (flat_map run_blocks rs)) more
first_behind count [] more each few = let all : count ≡ count - 0 = omega arith in ap (λ n. first_runs n more) all
first_behind count (r ∷ rs) more each few =
    let one : 1 ≤ r.count = each 0 r (omega arith) in
    let long : length (flat_map run_blocks (r ∷ rs)) ≡ r.count + length (flat_map run_blocks rs) = length-append (run_blocks r) (flat_map run_blocks rs) ∙ ap (λ n. n + length (flat_map run_blocks rs)) (length-range_with_len r.lbn r.count) in
    let left : count - r.count - length (flat_map run_blocks rs) ≡ count - length (flat_map run_blocks (r ∷ rs)) = omega (arith, long) in
    whole_run count r (rs ++ more) (λ e. absurd (omega (arith, e, one, few, long))) (omega (arith, few, long))
    ∙ ap (λ l. r ∷ l) (first_behind (count - r.count) rs more (λ k d low. each (suc k) d (omega (arith, low))) (omega (arith, few, long)))
    ∙ ap (λ n. r ∷ (rs ++ first_runs n more)) left

-- each pointer maps a block
pub each_maps : (b : List ℕ) → All (λ (r : Run). 1 ≤ r.count) (runs_of b)
each_maps b k d within = subst (λ (r : Run). 1 ≤ r.count) (sym (get_or_from_slice_get (runs_of b) k (run_at b k) d (slice_get-runs_of b k within))) (omega arith)
