-- A valid header with more pointers behind its own: it stays valid, links as it did, and says the same of its file.
use Rattle.std.proofs.Common.{◌≡◌, ℕ, ◌+◌, ◌-◌, ◌*◌, ◌/◌, ◌<◌, ◌≤◌, List, ◌++◌, length, ap, sym, ◌∙◌, arith, inl, inr}
use Rattle.std.specs.Prelude.{slice_range}
use Rattle.std.specs.List.{flat_map}
use Rattle.std.proofs.lemmas.Bool.{le-leb}
use Rattle.std.proofs.lemmas.Grind.{flat_map-append}
use Rattle.ods_base.specs.Block.{byte, word}
use Rattle.ods_header.specs.declared.header.Run.{Run}
use Rattle.ods_header.specs.Header.{IsLaidOut, IsValidHeader, blocks_of, ident_of, ident_word, map_word, next_number_of, next_sequence_of, next_volume_of, room_of, run_blocks, runs_of, segment_of, sequence_of}
use Rattle.ods_header.specs.Pointing.{IsWithRuns, KeepsFields}
use Rattle.ods_header.proofs.HeaderPlaces.{IsKept, stays_valid}
use Rattle.ods_header.proofs.Ranges.{same_range}
use Rattle.ods_state.specs.Contents.{file_of}
use Rattle.ods_state.proofs.Shown.{system_body}

module _ {b c : List ℕ} {runs : List Run} {n : ℕ} (w : IsWithRuns b runs c) (valid : IsValidHeader b n) (fits : length runs ≤ room_of b / 2) where
  laid : IsLaidOut b
  laid = valid.header.layout

  -- each byte before M.USE stays
  before : (i : ℕ) → i < 2 * map_word b + 8 → byte c i ≡ byte b i
  before i low = let q = laid.low in w.others i (omega arith) (λ e. absurd (omega arith)) (inl (omega arith))

  behind : byte c (2 * map_word b + 9) ≡ byte b (2 * map_word b + 9)
  behind = let q = laid.low in w.others (2 * map_word b + 9) (omega arith) (λ e. absurd (omega arith)) (inl (omega arith))

  words_before : (k : ℕ) → 2 * k + 1 < 2 * map_word b + 8 → word c k ≡ word b k
  words_before k low = λ i. before (2 * k) (omega arith) i + 256 * before (2 * k + 1) low i

  keeps : KeepsFields b c
  keeps i (inl low) = before i (omega arith)
  keeps i (inr (inl e)) = before i (omega arith)
  keeps i (inr (inr (inl e))) = before i (omega arith)
  keeps i (inr (inr (inr e))) = ap (byte c) e ∙ behind ∙ ap (byte b) (sym e)

  map_is : map_word c ≡ map_word b
  map_is = before 1 (omega arith)

  ident_is : ident_word c ≡ ident_word b
  ident_is = before 0 (omega arith)

  kept : IsKept b c
  kept =
      let u = w.used in let even = laid.even in let room = laid.room in let end = laid.fits in
      record { fields = keeps; checksum = w.checksum; even = omega arith; room = omega arith; fits = omega arith }

  pub still_valid : IsValidHeader c n
  still_valid = stays_valid b c laid kept n valid

  pub segment_stays : segment_of c ≡ segment_of b
  segment_stays = ap (λ m. byte c (2 * m)) map_is ∙ before (2 * map_word b) (omega arith)

  pub sequence_stays : sequence_of c ≡ sequence_of b
  sequence_stays = words_before 2 (let p = laid.ident in let q = laid.map in omega arith)

  pub next_volume_stays : next_volume_of c ≡ next_volume_of b
  next_volume_stays = ap (λ m. byte c (2 * m + 1)) map_is ∙ before (2 * map_word b + 1) (omega arith)

  pub next_number_stays : next_number_of c ≡ next_number_of b
  next_number_stays = ap (λ m. word c (m + 1)) map_is ∙ words_before (map_word b + 1) (omega arith)

  pub next_sequence_stays : next_sequence_of c ≡ next_sequence_of b
  next_sequence_stays = ap (λ m. word c (m + 2)) map_is ∙ words_before (map_word b + 2) (omega arith)

  pub blocks_grow : blocks_of c ≡ blocks_of b ++ flat_map run_blocks runs
  blocks_grow = ap (flat_map run_blocks) w.pointers ∙ flat_map-append run_blocks (runs_of b) runs

  early : (i : ℕ) → i < 92 → byte c i ≡ byte b i
  early i low = let p = laid.ident in let q = laid.map in before i (omega arith)

  ident_stays : ident_of c ≡ ident_of b
  ident_stays =
      let p = laid.ident in let q = laid.map in
      let a : ℕ = 2 * ident_word b in
      ap (λ k. slice_range c (2 * k) (2 * k + 46)) ident_is ∙ same_range b c a (a + 46 - a) w.size (λ j below. before (a + j) (omega arith))

  -- of a map, whose contents are not shown
  pub map_shown : (m : ℕ) (xs ys : List (List ℕ)) → m ≤ 2 → file_of m c xs ≡ file_of m b ys
  unfolding file_of
  map_shown m xs ys low =
      let body = system_body m c xs (le-leb m 2 low) ∙ sym (system_body m b ys (le-leb m 2 low)) in
      λ i. record {
        owner = record { group = early 9 (omega arith) i; member = early 8 (omega arith) i };
        protection = early 10 (omega arith) i + 256 * early 11 (omega arith) i;
        user_char = early 12 (omega arith) i;
        system_char = early 13 (omega arith) i;
        ident = ident_stays i;
        body = body i;
      }
