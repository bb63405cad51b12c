-- The last header of a chain, with more pointers and a link to a next header.
use Rattle.std.proofs.Common.{◌≡◌, ◌≢◌, ℕ, ◌+◌, ◌*◌, ◌/◌, ◌≤◌, min, List, length, take, refl, sym, ap, ◌∙◌, subst, arith, inl, inr}
use Rattle.std.proofs.lemmas.List.{length-take, take_min}
use Rattle.ods_base.specs.Block.{byte}
use Rattle.ods_header.specs.declared.header.Run.{Run}
use Rattle.ods_header.specs.Header.{IsValidHeader, IsLaidOut, runs_of, map_word, used_words_of, most_words_of, next_number_of, next_sequence_of, next_volume_of, room_of}
use Rattle.ods_header.specs.Pointing.{KeepsFields, KeepsRest, IsWithRuns, IsWithNext, IsGrown}

map_kept : (b c : List ℕ) → IsLaidOut b → KeepsFields b c → map_word c ≡ map_word b
map_kept b c laid kept = let p = laid.ident in let q = laid.map in kept 1 (inl (omega arith))

most_kept : (b c : List ℕ) → IsLaidOut b → KeepsFields b c → most_words_of c ≡ most_words_of b
most_kept b c laid kept = ap (λ m. byte c (2 * m + 9)) (map_kept b c laid kept) ∙ kept (2 * map_word b + 9) (inr (inr (inr refl)))

keeps_on : (b c d : List ℕ) → IsLaidOut b → KeepsFields b c → KeepsFields c d → KeepsFields b d
keeps_on b c d laid one two i at =
    let m = map_kept b c laid one in
    two i (elim at [
      | inl low ↦ inl (omega arith)
      | inr (inl e) ↦ inr (inl (omega arith))
      | inr (inr (inl e)) ↦ inr (inr (inl (omega arith)))
      | inr (inr (inr e)) ↦ inr (inr (inr (omega arith)))
    ]) ∙ one i at

-- what room is left behind the pointers that were taken
room_left : (b c : List ℕ) (runs : List Run) → IsLaidOut b → map_word c ≡ map_word b → most_words_of c ≡ most_words_of b → used_words_of c ≡ used_words_of b + 2 * length (take (room_of b / 2) runs)
    → room_of b / 2 ≤ length runs → room_of c / 2 ≡ 0
room_left b c runs laid m most used enough =
    let taken : length (take (room_of b / 2) runs) ≡ room_of b / 2 = length-take (room_of b / 2) runs ∙ omega arith in
    let fits = laid.fits in let room = laid.room in
    omega (arith, taken)

next_stays : (b c : List ℕ) (runs : List Run) → IsLaidOut b → IsWithRuns b runs c → KeepsFields b c → next_number_of c ≡ next_number_of b
next_stays b c runs laid appended kept =
    let m = map_kept b c laid kept in
    let low = laid.low in
    let first : byte c (2 * (map_word c + 1)) ≡ byte b (2 * (map_word b + 1)) = ap (λ k. byte c (2 * (k + 1))) m ∙ appended.others (2 * (map_word b + 1)) (omega arith) (λ e. absurd (omega arith)) (inl (omega arith)) in
    let second : byte c (2 * (map_word c + 1) + 1) ≡ byte b (2 * (map_word b + 1) + 1) = ap (λ k. byte c (2 * (k + 1) + 1)) m ∙ appended.others (2 * (map_word b + 1) + 1) (omega arith) (λ e. absurd (omega arith)) (inl (omega arith)) in
    λ i. first i + 256 * second i

volume_stays : (b c : List ℕ) (runs : List Run) → IsLaidOut b → IsWithRuns b runs c → KeepsFields b c → next_volume_of c ≡ next_volume_of b
volume_stays b c runs laid appended kept =
    let low = laid.low in
    ap (λ k. byte c (2 * k + 1)) (map_kept b c laid kept) ∙ appended.others (2 * map_word b + 1) (omega arith) (λ e. absurd (omega arith)) (inl (omega arith))

sequence_stays : (b c : List ℕ) (runs : List Run) → IsLaidOut b → IsWithRuns b runs c → KeepsFields b c → next_sequence_of c ≡ next_sequence_of b
sequence_stays b c runs laid appended kept =
    let m = map_kept b c laid kept in
    let low = laid.low in
    let first : byte c (2 * (map_word c + 2)) ≡ byte b (2 * (map_word b + 2)) = ap (λ k. byte c (2 * (k + 2))) m ∙ appended.others (2 * (map_word b + 2)) (omega arith) (λ e. absurd (omega arith)) (inl (omega arith)) in
    let second : byte c (2 * (map_word c + 2) + 1) ≡ byte b (2 * (map_word b + 2) + 1) = ap (λ k. byte c (2 * (k + 2) + 1)) m ∙ appended.others (2 * (map_word b + 2) + 1) (omega arith) (λ e. absurd (omega arith)) (inl (omega arith)) in
    λ i. first i + 256 * second i

-- what stands behind the pointers stays where pointers are appended
rest_behind_runs : (b c : List ℕ) (runs : List Run) → IsLaidOut b → IsWithRuns b runs c → KeepsFields b c → KeepsRest b c
rest_behind_runs b c runs laid appended kept =
    let m = map_kept b c laid kept in let used = appended.used in
    record {
      further = omega arith;
      behind = λ i at below. appended.others i below (λ e. absurd (omega arith)) (inr (omega arith));
      none = λ e. (sym (next_stays b c runs laid appended kept) ∙ e, sequence_stays b c runs laid appended kept);
    }

-- the pointers that have room, where they were cut to those that there are
pub as_many_as_fit : (b c : List ℕ) (runs : List Run) (n room : ℕ) → n ≡ min room (length runs) → room ≡ room_of b / 2 → IsWithRuns b (take n runs) c → IsWithRuns b (take (room_of b / 2) runs) c
as_many_as_fit b c runs n room least is appended =
    let P : List Run → Type 0 = λ rs. IsWithRuns b rs c in
    subst P (ap (λ k. take k runs) least ∙ take_min room runs ∙ ap (λ k. take k runs) is) appended

pub grown_alone : (b c : List ℕ) (runs : List Run) (number n s : ℕ) → IsValidHeader b number → IsWithRuns b (take (room_of b / 2) runs) c → KeepsFields b c → ((m : ℕ) → IsValidHeader b m → IsValidHeader c m) → n ≡ 0 → IsGrown b runs n s c
grown_alone b c runs number n s valid appended kept stays none =
    let laid = valid.header.layout in
    record {
      size = appended.size;
      valid = stays;
      fields = kept;
      pointers = appended.pointers;
      full = room_left b c runs laid (map_kept b c laid kept) (most_kept b c laid kept) appended.used;
      linked = λ some. absurd (some none);
      alone = λ e. next_stays b c (take (room_of b / 2) runs) laid appended kept;
      volume = λ e. volume_stays b c (take (room_of b / 2) runs) laid appended kept;
      rest = rest_behind_runs b c (take (room_of b / 2) runs) laid appended kept;
    }

pub grown_linked : (b c d : List ℕ) (runs : List Run) (number n s : ℕ) → IsValidHeader b number → IsWithRuns b (take (room_of b / 2) runs) c → KeepsFields b c → ((m : ℕ) → IsValidHeader b m → IsValidHeader c m)
    → IsWithNext c n s d → KeepsFields c d → runs_of d ≡ runs_of c → ((m : ℕ) → IsValidHeader c m → IsValidHeader d m) → n ≢ 0 → IsGrown b runs n s d
grown_linked b c d runs number n s valid appended kept stays next again same lasting some =
    let laid = valid.header.layout in
    let mid = (stays number valid).header.layout in
    let all = keeps_on b c d laid kept again in
    let low = mid.low in
    let used : used_words_of d ≡ used_words_of c = ap (λ m. byte d (2 * m + 8)) (map_kept c d mid again) ∙ next.others (2 * map_word c + 8) (omega arith) (inr (omega arith)) in
    record {
      size = next.size ∙ appended.size;
      valid = λ m v. lasting m (stays m v);
      fields = all;
      pointers = same ∙ appended.pointers;
      full = room_left b d runs laid (map_kept b d laid all) (most_kept b d laid all) (used ∙ appended.used);
      linked = λ e. (next.number, next.volume, next.sequence);
      alone = λ none. absurd (some none);
      volume = λ none. absurd (some none);
      rest =
          let before = rest_behind_runs b c (take (room_of b / 2) runs) laid appended kept in
          let m = map_kept c d mid again in
          let further = before.further in
          record {
            further = omega arith;
            behind = λ i at below. next.others i below (inr (omega arith)) ∙ before.behind i (omega arith) below;
            none = λ e. absurd (some (sym next.number ∙ e));
          };
    }
