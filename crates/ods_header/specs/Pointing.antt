-- Header blocks that are changed in place: more pointers, another next header. Every other byte is unchanged.
use Rattle.std.specs.Prelude.{◌≡◌, ◌≢◌, ℕ, ◌+◌, ◌*◌, ◌/◌, ◌%◌, ◌<◌, ◌≤◌, ◌⊎◌, List, [], ◌∷◌, ◌++◌, length, take}
use Rattle.ods_base.specs.Block.{byte, word, sum_of}
use Rattle.ods_header.specs.declared.header.Run.{Run}
use Rattle.ods_header.specs.Header.{IsValidHeader, map_word, used_words_of, next_volume_of, next_number_of, next_sequence_of, runs_of, room_of}

-- c keeps the bytes of header b that describe the file: each byte before M.ERVN, and M.CTSZ, M.LBSZ and M.MAX
abbrev pub KeepsFields : List ℕ → List ℕ → Type 0
KeepsFields b c = (i : ℕ) → (i < 2 * map_word b + 1) ⊎ (i ≡ 2 * map_word b + 6) ⊎ (i ≡ 2 * map_word b + 7) ⊎ (i ≡ 2 * map_word b + 9) → byte c i ≡ byte b i

-- c keeps the bytes of header b that no request changes: all except the user characteristics, the attributes, the link, M.USE, the pointers, the
-- bytes after them, and the checksum
abbrev pub KeepsForm : List ℕ → List ℕ → Type 0
KeepsForm b c = (i : ℕ) → (i < 12) ⊎ (i ≡ 13) ⊎ ((46 ≤ i) × (i < 2 * map_word b + 1)) ⊎ (i ≡ 2 * map_word b + 6) ⊎ (i ≡ 2 * map_word b + 7) ⊎ (i ≡ 2 * map_word b + 9)
    → byte c i ≡ byte b i

-- the pointers of c begin with the pointers of header b
abbrev pub BeginsPointers : List ℕ → List ℕ → Type 0
BeginsPointers b c = (more : List Run) × (runs_of c ≡ runs_of b ++ more)

-- the byte offset of the first pointer slot that is not in use
abbrev pub behind_pointers : List ℕ → ℕ
behind_pointers b = 2 * map_word b + 10 + 2 * used_words_of b

-- M.ERVN, M.EFNU and M.EFSQ of a link to this header
abbrev pub link_bytes : ℕ → ℕ → List ℕ
link_bytes number sequence = 0 ∷ (number % 256) ∷ (number / 256) ∷ (sequence % 256) ∷ (sequence / 256) ∷ []

-- c keeps the bytes after its own pointers, up to the checksum, from header b. Its pointers end no earlier than the pointers of b. If c has no next
-- header, b has none, and M.EFSQ is unchanged.
pub record KeepsRest (b c : List ℕ) : Type 0 where
  pub further : behind_pointers b ≤ behind_pointers c
  pub behind : (i : ℕ) → behind_pointers c ≤ i → i < 510 → byte c i ≡ byte b i
  pub none : next_number_of c ≡ 0 → (next_number_of b ≡ 0) × (next_sequence_of c ≡ next_sequence_of b)

-- c is the header block b with these pointers after its own: M.USE counts them, the checksum is new, and every other byte is unchanged
pub record IsWithRuns (b : List ℕ) (runs : List Run) (c : List ℕ) : Type 0 where
  pub size : length c ≡ length b
  pub pointers : runs_of c ≡ runs_of b ++ runs
  pub used : used_words_of c ≡ used_words_of b + 2 * length runs
  pub checksum : word c 255 ≡ sum_of c 255
  pub others : (i : ℕ) → i < 510 → i ≢ 2 * map_word b + 8 → (i < behind_pointers b) ⊎ (behind_pointers b + 4 * length runs ≤ i) → byte c i ≡ byte b i

-- c is the header block b with header n, of sequence number s, as its next header on this volume: M.ERVN, M.EFNU, M.EFSQ and the checksum are new,
-- and every other byte is unchanged
pub record IsWithNext (b : List ℕ) (n s : ℕ) (c : List ℕ) : Type 0 where
  pub size : length c ≡ length b
  pub volume : next_volume_of c ≡ 0
  pub number : next_number_of c ≡ n
  pub sequence : next_sequence_of c ≡ s
  pub checksum : word c 255 ≡ sum_of c 255
  pub others : (i : ℕ) → i < 510 → (i < 2 * map_word b + 1) ⊎ (2 * map_word b + 6 ≤ i) → byte c i ≡ byte b i

-- c is the header block b with as many of these runs as it has room for after its pointers. If n is not 0, its next header is n with sequence number
-- s. Otherwise it keeps the next header of b.
pub record IsGrown (b : List ℕ) (runs : List Run) (n s : ℕ) (c : List ℕ) : Type 0 where
  pub size : length c ≡ length b
  pub valid : (m : ℕ) → IsValidHeader b m → IsValidHeader c m
  pub fields : KeepsFields b c
  pub pointers : runs_of c ≡ runs_of b ++ take (room_of b / 2) runs
  pub full : room_of b / 2 ≤ length runs → room_of c / 2 ≡ 0
  pub linked : n ≢ 0 → (next_number_of c ≡ n) × (next_volume_of c ≡ 0) × (next_sequence_of c ≡ s)
  pub alone : n ≡ 0 → next_number_of c ≡ next_number_of b
  pub volume : n ≡ 0 → next_volume_of c ≡ next_volume_of b
  pub rest : KeepsRest b c
