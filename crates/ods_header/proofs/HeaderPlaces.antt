-- Header blocks that are changed in place stay valid headers, with the old pointers in front.
use Rattle.std.proofs.Common.{◌≡◌, ℕ, zero, suc, ◌+◌, ◌-◌, ◌*◌, ◌/◌, ◌%◌, ◌<◌, ◌≤◌, List, [], ◌∷◌, ◌++◌, map, length, slice_get, Some, inl, inr, refl, ap, ◌∙◌, subst, arith}
use Rattle.std.specs.List.{All, range_with_len}
use Rattle.std.proofs.lemmas.Option.{slice_get_within, get_or_from_slice_get}
use Rattle.ods_base.specs.Block.{byte, word, sum_of}
use Rattle.ods_header.specs.declared.header.Run.{Run}
use Rattle.ods_header.specs.Header.{IsValidHeader, IsLaidOut, IsRun, runs_of, run_at, used_words_of, most_words_of, map_word, ident_word}
use Rattle.ods_header.specs.Writing.{pointer_bytes, HasPointersAt}
use Rattle.ods_header.specs.Pointing.{KeepsFields, behind_pointers}

-- bytes of c that are b's, and those that make c a header
pub record IsKept (b c : List ℕ) : Type 0 where
  pub fields : KeepsFields b c
  pub checksum : word c 255 ≡ sum_of c 255
  pub even : used_words_of c % 2 ≡ 0
  pub room : used_words_of c ≤ most_words_of b
  pub fits : 2 * map_word b + 10 + 2 * used_words_of c ≤ 510

module _ (b c : List ℕ) (laid : IsLaidOut b) (kept : IsKept b c) where
  front : (i : ℕ) → i < 2 * map_word b + 1 → byte c i ≡ byte b i
  front i low = kept.fields i (inl low)

  pub map_word_is : map_word c ≡ map_word b
  map_word_is = let p = laid.ident in let q = laid.map in front 1 (omega arith)

  ident_word_is : ident_word c ≡ ident_word b
  ident_word_is = front 0 (omega arith)

  word_front : (k : ℕ) → k < map_word b → word c k ≡ word b k
  word_front k low = λ i. front (2 * k) (omega arith) i + 256 * front (2 * k + 1) (omega arith) i

  most_is : most_words_of c ≡ most_words_of b
  most_is = ap (λ m. byte c (2 * m + 9)) map_word_is ∙ kept.fields (2 * map_word b + 9) (inr (inr (inr refl)))

  laid_out : IsLaidOut c
  laid_out =
      let o = ident_word_is in
      let m = map_word_is in
      let t = most_is in
      let p = laid.ident in let q = laid.map in let r = laid.low in
      let s = kept.even in let u = kept.room in let v = kept.fits in
      record { ident = omega arith; map = omega arith; low = omega arith; even = omega arith; room = omega arith; fits = omega arith }

  pub stays_valid : (n : ℕ) → IsValidHeader b n → IsValidHeader c n
  stays_valid n v =
      let p = laid.ident in let q = laid.map in record {
        header = record {
          checksum = kept.checksum;
          numbered = word_front 1 (omega arith) ∙ v.header.numbered;
          level = word_front 3 (omega arith) ∙ v.header.level;
          layout = laid_out;
        };
        format = (
          ap (λ m. byte c (2 * m + 6)) map_word_is ∙ kept.fields (2 * map_word b + 6) (inr (inl refl)) ∙ v.format.0,
          ap (λ m. byte c (2 * m + 7)) map_word_is ∙ kept.fields (2 * map_word b + 7) (inr (inr (inl refl))) ∙ v.format.1,
        );
      }

-- one pointer that stays
pub run_stays : (b c : List ℕ) (k : ℕ) → map_word c ≡ map_word b → ((i : ℕ) → i < 4 → byte c (2 * map_word b + 10 + 4 * k + i) ≡ byte b (2 * map_word b + 10 + 4 * k + i)) → run_at c k ≡ run_at b k
run_stays b c k m same =
    let high : byte c (2 * map_word c + 10 + 4 * k) ≡ byte b (2 * map_word b + 10 + 4 * k) = ap (byte c) (omega arith) ∙ same 0 (omega arith) ∙ ap (byte b) (omega arith) in
    let count : byte c (2 * map_word c + 11 + 4 * k) ≡ byte b (2 * map_word b + 11 + 4 * k) = ap (byte c) (omega arith) ∙ same 1 (omega arith) ∙ ap (byte b) (omega arith) in
    let first : byte c (2 * (map_word c + 6 + 2 * k)) ≡ byte b (2 * (map_word b + 6 + 2 * k)) = ap (byte c) (omega arith) ∙ same 2 (omega arith) ∙ ap (byte b) (omega arith) in
    let second : byte c (2 * (map_word c + 6 + 2 * k) + 1) ≡ byte b (2 * (map_word b + 6 + 2 * k) + 1) = ap (byte c) (omega arith) ∙ same 3 (omega arith) ∙ ap (byte b) (omega arith) in
    λ i. record { lbn = 65536 * high i + (first i + 256 * second i); count = count i + 1 }

-- one pointer that is written
pub run_written : (c : List ℕ) (m k : ℕ) (r : Run) → map_word c ≡ m → IsRun r → ((j : ℕ) → j < 4 → byte c (2 * m + 10 + 4 * k + j) ≡ byte (pointer_bytes r) j) → run_at c k ≡ r
run_written c m k r e lawful written =
    let high : byte c (2 * map_word c + 10 + 4 * k) ≡ r.lbn / 65536 % 256 = ap (byte c) (omega arith) ∙ written 0 (omega arith) in
    let count : byte c (2 * map_word c + 11 + 4 * k) ≡ (r.count - 1) % 256 = ap (byte c) (omega arith) ∙ written 1 (omega arith) in
    let first : byte c (2 * (map_word c + 6 + 2 * k)) ≡ r.lbn % 256 = ap (byte c) (omega arith) ∙ written 2 (omega arith) in
    let second : byte c (2 * (map_word c + 6 + 2 * k) + 1) ≡ r.lbn % 65536 / 256 = ap (byte c) (omega arith) ∙ written 3 (omega arith) in
    let some = lawful.some in
    let few = lawful.most in
    let below = lawful.lbn in
    let lbn : 65536 * byte c (2 * map_word c + 10 + 4 * k) + word c (map_word c + 6 + 2 * k) ≡ r.lbn = omega arith in
    let size : byte c (2 * map_word c + 11 + 4 * k) + 1 ≡ r.count = omega arith in
    λ i. record { lbn = lbn i; count = size i }

-- a range in two parts
pub range_append : (a n m : ℕ) → range_with_len a (n + m) ≡ range_with_len a n ++ range_with_len (a + n) m
range_append a zero m =
    let none : 0 + m ≡ m = omega arith in
    let here : a ≡ a + 0 = omega arith in
    ap (range_with_len a) none ∙ ap (λ k. range_with_len k m) here
range_append a (suc n) m =
    let place : suc n + m ≡ suc (n + m) = omega arith in
    let next : a + 1 + n ≡ a + suc n = omega arith in
    ap (range_with_len a) place ∙ ap (λ l. a ∷ l) (range_append (a + 1) n m ∙ ap (λ k. range_with_len (a + 1) n ++ range_with_len k m) next)

pub map_append : (f : ℕ → Run) (xs ys : List ℕ) → map f (xs ++ ys) ≡ map f xs ++ map f ys
map_append f [] ys = refl
map_append f (x ∷ xs) ys = ap (λ l. f x ∷ l) (map_append f xs ys)

pub map_alike : (f g : ℕ → Run) (n a : ℕ) → ((k : ℕ) → k < a + n → f k ≡ g k) → map f (range_with_len a n) ≡ map g (range_with_len a n)
map_alike f g zero a same = refl
map_alike f g (suc n) a same =
    let first : f a ≡ g a = same a (omega arith) in
    let rest : map f (range_with_len (a + 1) n) ≡ map g (range_with_len (a + 1) n) = map_alike f g n (a + 1) (λ k below. same k (omega arith)) in
    rw (first, rest) refl

map_listed : (f : ℕ → Run) (a : ℕ) (rs : List Run) → ((k : ℕ) (r : Run) → slice_get rs k ≡ Some r → f (a + k) ≡ r) → map f (range_with_len a (length rs)) ≡ rs
map_listed f a [] each = refl
map_listed f a (r ∷ rs) each =
    let first : f a ≡ r = ap f (omega arith) ∙ each 0 r refl in
    let rest : map f (range_with_len (a + 1) (length rs)) ≡ rs = map_listed f (a + 1) rs (λ k s found. ap f (omega arith) ∙ each (suc k) s found) in
    cc (first, rest)

-- the old pointers and then those written behind them
pub runs_appended : (b c : List ℕ) (rs : List Run) → map_word c ≡ map_word b → used_words_of b % 2 ≡ 0 → used_words_of c ≡ used_words_of b + 2 * length rs → All IsRun rs
    → ((i : ℕ) → i < behind_pointers b → 2 * map_word b + 10 ≤ i → byte c i ≡ byte b i) → HasPointersAt c (behind_pointers b) rs → runs_of c ≡ runs_of b ++ rs
unfolding runs_of
runs_appended b c rs m even used lawful same written =
    let n : ℕ = used_words_of b / 2 in
    let count : used_words_of c / 2 ≡ n + length rs = omega arith in
    let d : Run = record { lbn = 0; count = 0 } in
    let old : map (run_at c) (range_with_len 0 n) ≡ map (run_at b) (range_with_len 0 n) =
    map_alike (run_at c) (run_at b) n 0 (λ k below. run_stays b c k m (λ i small. same (2 * map_word b + 10 + 4 * k + i) (omega arith) (omega arith))) in
    let new : map (run_at c) (range_with_len (0 + n) (length rs)) ≡ rs = map_listed (run_at c) (0 + n) rs (λ k r found.
    run_written c (map_word b) (0 + n + k) r m (lawful_at rs lawful k r found) (λ j small. ap (byte c) (omega arith) ∙ written k j r found small)) in
    ap (λ k. map (run_at c) (range_with_len 0 k)) count ∙ ap (map (run_at c)) (range_append 0 n (length rs))
    ∙ map_append (run_at c) (range_with_len 0 n) (range_with_len (0 + n) (length rs))
    ∙ ap (λ l. l ++ map (run_at c) (range_with_len (0 + n) (length rs))) old ∙ ap (λ l. map (run_at b) (range_with_len 0 n) ++ l) new
  where
    lawful_at : (xs : List Run) → All IsRun xs → (k : ℕ) (r : Run) → slice_get xs k ≡ Some r → IsRun r
    lawful_at xs each k r found = subst IsRun (get_or_from_slice_get xs k r r found) (each k r (slice_get_within xs k r found))

-- pointers that stay
pub same_runs : (b c : List ℕ) → map_word c ≡ map_word b → used_words_of c ≡ used_words_of b → ((i : ℕ) → i < behind_pointers b → 2 * map_word b + 10 ≤ i → byte c i ≡ byte b i) → runs_of c ≡ runs_of b
unfolding runs_of
same_runs b c m used same =
    ap (λ n. map (run_at c) (range_with_len 0 (n / 2))) used
    ∙ map_alike (run_at c) (run_at b) (used_words_of b / 2) 0 (λ k below. run_stays b c k m (λ i small. same (2 * map_word b + 10 + 4 * k + i) (omega arith) (omega arith)))
