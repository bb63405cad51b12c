-- What the steps of appending pointers, and of naming a next header, make of a header block.
use Rattle.std.proofs.Common.{◌≡◌, ◌≢◌, ℕ, ◌+◌, ◌*◌, ◌/◌, ◌%◌, ◌<◌, ◌≤◌, ◌⊎◌, List, [], ◌∷◌, length, inl, inr, refl, sym, ap, ◌∙◌, arith}
use Rattle.std.specs.List.{All}
use Rattle.std.proofs.lemmas.Bool.{cases_lt}
use Rattle.std.proofs.lemmas.Option.{slice_get_within}
use Rattle.ods_base.specs.Block.{IsBlock, byte, word, with_bytes, sum_of}
use Rattle.ods_base.proofs.Blocks.{byte-with_bytes, byte-with_bytes_before, byte-with_bytes_behind}
use Rattle.ods_header.specs.declared.header.Run.{Run}
use Rattle.ods_header.specs.Header.{IsValidHeader, IsLaidOut, IsRun, runs_of, used_words_of, map_word, room_of}
use Rattle.ods_header.specs.Writing.{HasPointersAt, SameOutside, with_sum}
use Rattle.ods_header.specs.Pointing.{KeepsFields, behind_pointers, IsWithRuns, IsWithNext, link_bytes}
use Rattle.ods_header.proofs.Summed.{before_sum, sum_is_right}
use Rattle.ods_header.proofs.HeaderPlaces.{IsKept, stays_valid, runs_appended, same_runs}

-- the blocks between the steps of appending pointers
pub record AreRunSteps (b b1 b2 c : List ℕ) (rs : List Run) (now : ℕ) : Type 0 where
  pub laid : IsLaidOut b
  pub room : length rs ≤ room_of b / 2
  pub runs : All IsRun rs
  pub block0 : IsBlock b
  pub block1 : IsBlock b1
  pub block2 : IsBlock b2
  pub block3 : IsBlock c
  pub pointers : HasPointersAt b1 (behind_pointers b) rs
  pub outside : SameOutside b b1 (behind_pointers b) (behind_pointers b + 4 * length rs)
  pub used : now ≡ used_words_of b + 2 * length rs
  pub counted : b2 ≡ with_bytes b1 (2 * map_word b + 8) (now ∷ [])
  pub sum : c ≡ with_sum b2

module _ (b b1 b2 c : List ℕ) (rs : List Run) (now : ℕ) (s : AreRunSteps b b1 b2 c rs now) where
  at3 : (i : ℕ) → i < 510 → byte c i ≡ byte b2 i
  at3 i below = before_sum b2 c i s.sum below

  at2 : (i : ℕ) → i < 510 → i ≢ 2 * map_word b + 8 → byte c i ≡ byte b1 i
  at2 i below other =
      let low = s.laid.low in let size = s.block1.size in
      at3 i below ∙ ap (λ l. byte l i) s.counted ∙ elim (cases_lt i (2 * map_word b + 8)) [
        | inl before ↦ byte-with_bytes_before b1 (now ∷ []) (2 * map_word b + 8) i (omega arith) before
        | inr after ↦ byte-with_bytes_behind b1 (now ∷ []) (2 * map_word b + 8) i (omega arith) (omega arith)
      ]

  others : (i : ℕ) → i < 510 → i ≢ 2 * map_word b + 8 → (i < behind_pointers b) ⊎ (behind_pointers b + 4 * length rs ≤ i) → byte c i ≡ byte b i
  others i below other apart = at2 i below other ∙ s.outside i apart

  in_map : (i : ℕ) → i < 2 * map_word b + 10 → i ≢ 2 * map_word b + 8 → byte c i ≡ byte b i
  in_map i small other = let low = s.laid.low in others i (omega arith) other (inl (omega arith))

  keeps : KeepsFields b c
  keeps i (inl a) = in_map i (omega arith) (λ e. absurd (omega arith))
  keeps i (inr (inl a)) = in_map i (omega arith) (λ e. absurd (omega arith))
  keeps i (inr (inr (inl a))) = in_map i (omega arith) (λ e. absurd (omega arith))
  keeps i (inr (inr (inr a))) = in_map i (omega arith) (λ e. absurd (omega arith))

  map_is : map_word c ≡ map_word b
  map_is = in_map 1 (omega arith) (λ e. let q = s.laid.map in absurd (omega arith))

  used_is : used_words_of c ≡ used_words_of b + 2 * length rs
  used_is =
      let low = s.laid.low in let size = s.block1.size in
      ap (λ m. byte c (2 * m + 8)) map_is ∙ at3 (2 * map_word b + 8) (omega arith) ∙ ap (λ l. byte l (2 * map_word b + 8)) s.counted
      ∙ byte-with_bytes b1 (now ∷ []) (2 * map_word b + 8) (2 * map_word b + 8) 0 (omega arith) (omega arith) (omega arith) ∙ s.used

  total : word c 255 ≡ sum_of c 255
  total = sum_is_right b2 c s.block2.size s.sum

  kept : IsKept b c
  kept =
      let u = used_is in let room = s.room in let even = s.laid.even in let fits = s.laid.fits in
      record { fields = keeps; checksum = total; even = omega arith; room = omega arith; fits = omega arith }

  pub with_runs : IsWithRuns b rs c
  with_runs = record {
    size = s.block3.size ∙ sym s.block0.size;
    pointers = runs_appended b c rs map_is s.laid.even used_is s.runs
        (λ i below above. let fits = s.laid.fits in others i (omega arith) (λ e. absurd (omega arith)) (inl below))
        (λ k j r found small. let u = used_is in let room = s.room in let fits = s.laid.fits in let within = slice_get_within rs k r found in
        at2 (behind_pointers b + 4 * k + j) (omega arith) (λ e. absurd (omega arith)) ∙ s.pointers k j r found small);
    used = used_is;
    checksum = total;
    others = others;
  }

  pub runs_keep : KeepsFields b c
  runs_keep = keeps

  pub runs_valid : (n : ℕ) → IsValidHeader b n → IsValidHeader c n
  runs_valid n v = stays_valid b c s.laid kept n v

-- the blocks between the steps of naming a next header
pub record AreNextSteps (b b1 c : List ℕ) (number sequence : ℕ) : Type 0 where
  pub laid : IsLaidOut b
  pub block0 : IsBlock b
  pub block1 : IsBlock b1
  pub block2 : IsBlock c
  pub written : b1 ≡ with_bytes b (2 * map_word b + 1) (link_bytes number sequence)
  pub sum : c ≡ with_sum b1

module _ (b b1 c : List ℕ) (number sequence : ℕ) (s : AreNextSteps b b1 c number sequence) where
  seen : (i : ℕ) → i < 510 → byte c i ≡ byte b1 i
  seen i below = before_sum b1 c i s.sum below

  link_at : (j : ℕ) → j < 5 → byte c (2 * map_word b + 1 + j) ≡ byte (link_bytes number sequence) j
  link_at j small =
      let low = s.laid.low in let size = s.block0.size in
      seen (2 * map_word b + 1 + j) (omega arith) ∙ ap (λ l. byte l (2 * map_word b + 1 + j)) s.written
      ∙ byte-with_bytes b (link_bytes number sequence) (2 * map_word b + 1) (2 * map_word b + 1 + j) j (omega arith) refl small

  apart_of : (i : ℕ) → i < 510 → (i < 2 * map_word b + 1) ⊎ (2 * map_word b + 6 ≤ i) → byte c i ≡ byte b i
  apart_of i below (inl before) =
      let low = s.laid.low in let size = s.block0.size in
      seen i below ∙ ap (λ l. byte l i) s.written ∙ byte-with_bytes_before b (link_bytes number sequence) (2 * map_word b + 1) i (omega arith) before
  apart_of i below (inr after) =
      let low = s.laid.low in let size = s.block0.size in
      seen i below ∙ ap (λ l. byte l i) s.written ∙ byte-with_bytes_behind b (link_bytes number sequence) (2 * map_word b + 1) i (omega arith) (omega arith)

  pub next_keeps : KeepsFields b c
  next_keeps i (inl a) = let low = s.laid.low in apart_of i (omega arith) (inl a)
  next_keeps i (inr (inl a)) = let low = s.laid.low in apart_of i (omega arith) (inr (omega arith))
  next_keeps i (inr (inr (inl a))) = let low = s.laid.low in apart_of i (omega arith) (inr (omega arith))
  next_keeps i (inr (inr (inr a))) = let low = s.laid.low in apart_of i (omega arith) (inr (omega arith))

  map_same : map_word c ≡ map_word b
  map_same = let q = s.laid.map in apart_of 1 (omega arith) (inl (omega arith))

  used_same : used_words_of c ≡ used_words_of b
  used_same = let low = s.laid.low in ap (λ m. byte c (2 * m + 8)) map_same ∙ apart_of (2 * map_word b + 8) (omega arith) (inr (omega arith))

  summed : word c 255 ≡ sum_of c 255
  summed = sum_is_right b1 c s.block1.size s.sum

  next_kept : IsKept b c
  next_kept =
      let u = used_same in let even = s.laid.even in let room = s.laid.room in let fits = s.laid.fits in
      record { fields = next_keeps; checksum = summed; even = omega arith; room = omega arith; fits = omega arith }

  pub with_next : IsWithNext b number sequence c
  with_next =
      let m = map_same in
      let low1 : byte c (2 * (map_word c + 1)) ≡ number % 256 = ap (byte c) (omega arith) ∙ link_at 1 (omega arith) in
      let high1 : byte c (2 * (map_word c + 1) + 1) ≡ number / 256 = ap (byte c) (omega arith) ∙ link_at 2 (omega arith) in
      let low2 : byte c (2 * (map_word c + 2)) ≡ sequence % 256 = ap (byte c) (omega arith) ∙ link_at 3 (omega arith) in
      let high2 : byte c (2 * (map_word c + 2) + 1) ≡ sequence / 256 = ap (byte c) (omega arith) ∙ link_at 4 (omega arith) in
      record {
        size = s.block2.size ∙ sym s.block0.size;
        volume = ap (byte c) (omega arith) ∙ link_at 0 (omega arith);
        number = omega arith;
        sequence = omega arith;
        checksum = summed;
        others = apart_of;
      }

  pub next_runs : runs_of c ≡ runs_of b
  next_runs = same_runs b c map_same used_same (λ i below above. let fits = s.laid.fits in apart_of i (omega arith) (inr (omega arith)))

  pub next_valid : (n : ℕ) → IsValidHeader b n → IsValidHeader c n
  next_valid n v = stays_valid b c s.laid next_kept n v
