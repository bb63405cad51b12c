-- Headers of files that are cut: fewer pointers, and no next header.
use Rattle.std.specs.Prelude.{◌≡◌, ◌≢◌, ℕ, ◌+◌, ◌-◌, ◌*◌, ◌<◌, ◌≤◌, ◌⊎◌, ◌==◌, nat_le, if◌then◌else◌, List, [], ◌∷◌, ◌++◌, length, take}
use Rattle.ods_base.specs.Block.{byte, word, sum_of}
use Rattle.ods_header.specs.declared.header.Run.{Run}
use Rattle.ods_header.specs.Header.{map_word, next_number_of, next_sequence_of, run_at, runs_of, used_words_of}

-- the runs of the first `count` blocks; the last run may be shorter than before
abbrev pub first_runs : ℕ → List Run → List Run
first_runs count [] = []
first_runs count (r ∷ rs) =
    if count == 0 then []
    else if nat_le r.count count then r ∷ first_runs (count - r.count) rs
    else record { lbn = r.lbn; count = count } ∷ []

-- c is the header block b with these pointers, which are the first of its own, and no next header. M.USE, M.EFNU and M.EFSQ, the count of the last
-- pointer, and the checksum are new. Every other byte is unchanged, and so are the bytes of dropped pointers.
pub record IsCutTo (b : List ℕ) (runs : List Run) (c : List ℕ) : Type 0 where
  pub size : length c ≡ length b
  pub pointers : runs_of c ≡ runs
  pub used : used_words_of c ≡ 2 * length runs
  pub number : next_number_of c ≡ 0
  pub sequence : next_sequence_of c ≡ 0
  pub checksum : word c 255 ≡ sum_of c 255
  pub others : (i : ℕ) → i < 510
      → (i < 2 * map_word b + 2) ⊎ (i ≡ 2 * map_word b + 6) ⊎ (i ≡ 2 * map_word b + 7) ⊎ (i ≡ 2 * map_word b + 9) ⊎ ((2 * map_word b + 10 ≤ i) × (i ≢ 2 * map_word b + 7 + 4 * length runs))
      → byte c i ≡ byte b i

-- The first `count` blocks of header b take this many pointers, and the last pointer then has this count byte. It maps all its blocks, or fewer. If
-- no pointer is kept, this byte is M.LBSZ.
abbrev pub IsCutEnd : List ℕ → ℕ → ℕ → ℕ → Type 0
IsCutEnd b count pointers last =
    ((pointers ≤ length (runs_of b)) × (first_runs count (runs_of b) ≡ take pointers (runs_of b)) × (last ≡ byte b (2 * map_word b + 7 + 4 * pointers)))
    ⊎ ((k : ℕ) × (k < length (runs_of b)) × (pointers ≡ k + 1) × (first_runs count (runs_of b) ≡ take k (runs_of b) ++ record { lbn = (run_at b k).lbn; count = last + 1 } ∷ []))
