-- The entries of a directory after 16 bytes of it are written.
use Rattle.std.proofs.Common.{◌≡◌, ◌≢◌, ℕ, ◌+◌, ◌*◌, ◌/◌, ◌%◌, ◌<◌, List, [], ◌∷◌, length, slice_index, set, refl, sym, ap, ◌∙◌, arith, inl, inr}
use Rattle.std.proofs.lemmas.Bool.{cases_lt, cases_eq}
use Rattle.std.proofs.lemmas.List.{get_or-set_same, get_or-set_other}
use Rattle.ods_base.specs.Block.{byte, word, with_bytes}
use Rattle.ods_base.specs.Image.{block_at}
use Rattle.ods_base.specs.declared.file_id.FileId.{FileId}
use Rattle.ods_base.proofs.Blocks.{byte-with_bytes, byte-with_bytes_before, byte-with_bytes_behind}
use Rattle.ods_directory.specs.Entry.{entry_in, entry_at, entry_bytes}
use Rattle.ods_directory.specs.Mark.{written}

-- entry i of one block and entry j of another have the same bytes
abbrev SameBytes : List ℕ → ℕ → List ℕ → ℕ → Type 0
SameBytes b i c j = (q : ℕ) → q < 16 → byte b (16 * i + q) ≡ byte c (16 * j + q)

same_word : (b c : List ℕ) (i j t x y : ℕ) → SameBytes b i c j → t < 8 → x ≡ 8 * i + t → y ≡ 8 * j + t → word b x ≡ word c y
same_word b c i j t x y same below at_x at_y =
    let left : 2 * x ≡ 16 * i + 2 * t = omega arith in
    let right : 16 * j + 2 * t ≡ 2 * y = omega arith in
    let left_high : 2 * x + 1 ≡ 16 * i + (2 * t + 1) = omega arith in
    let right_high : 16 * j + (2 * t + 1) ≡ 2 * y + 1 = omega arith in
    let low : byte b (2 * x) ≡ byte c (2 * y) = ap (byte b) left ∙ same (2 * t) (omega arith) ∙ ap (byte c) right in
    let high : byte b (2 * x + 1) ≡ byte c (2 * y + 1) = ap (byte b) left_high ∙ same (2 * t + 1) (omega arith) ∙ ap (byte c) right_high in
    λ s. low s + 256 * high s

-- entries with the same bytes are the same
same_entry : (b c : List ℕ) (i j : ℕ) → SameBytes b i c j → entry_in b i ≡ entry_in c j
same_entry b c i j same =
    let number : word b (8 * i) ≡ word c (8 * j) = same_word b c i j 0 (8 * i) (8 * j) same (omega arith) (omega arith) (omega arith) in
    let at = λ (t : ℕ) (below : t < 8). same_word b c i j t (8 * i + t) (8 * j + t) same below refl refl in
    let sequence = at 1 (omega arith) in
    let volume = at 2 (omega arith) in
    let first = at 3 (omega arith) in
    let second = at 4 (omega arith) in
    let third = at 5 (omega arith) in
    let ext = at 6 (omega arith) in
    let version = at 7 (omega arith) in
    λ s. record { file = record { number = number s; sequence = sequence s }; volume = volume s; key = first s ∷ second s ∷ third s ∷ ext s ∷ version s ∷ [] }

module _ (b bytes : List ℕ) (size : length b ≡ 512) (long : length bytes ≡ 16) (j : ℕ) (inside : j < 32) where
  -- the entry that is written in a block
  entry_here : entry_in (with_bytes b (16 * j) bytes) j ≡ entry_in bytes 0
  entry_here = same_entry (with_bytes b (16 * j) bytes) bytes j 0 (λ q below.
      let position : q ≡ 16 * 0 + q = omega arith in
      byte-with_bytes b bytes (16 * j) (16 * j + q) q (omega arith) refl (omega arith) ∙ ap (byte bytes) position)

  -- the others of the block
  entry_beside : (i : ℕ) → i ≢ j → entry_in (with_bytes b (16 * j) bytes) i ≡ entry_in b i
  entry_beside i apart = same_entry (with_bytes b (16 * j) bytes) b i i (λ q below. elim (cases_lt i j) [
    | inl before ↦ byte-with_bytes_before b bytes (16 * j) (16 * i + q) (omega arith) (omega arith)
    | inr behind ↦ byte-with_bytes_behind b bytes (16 * j) (16 * i + q) (omega arith) (omega arith)
  ])

written-is : (blocks : List (List ℕ)) (k : ℕ) (bytes : List ℕ) → written blocks (16 * k) bytes ≡ set blocks (k / 32) (with_bytes (block_at blocks (k / 32)) (16 * (k % 32)) bytes)
unfolding written
written-is blocks k bytes =
    let position : 16 * k / 512 ≡ k / 32 = omega arith in
    let rest : 16 * k % 512 ≡ 16 * (k % 32) = omega arith in
    λ s. set blocks (position s) (with_bytes (block_at blocks (position s)) (rest s) bytes)

module _ (blocks : List (List ℕ)) (bytes : List ℕ) (k : ℕ) (within : k / 32 < length blocks) (size : length (block_at blocks (k / 32)) ≡ 512) (long : length bytes ≡ 16) where
  -- the entry that is written
  pub entry_written : entry_at (written blocks (16 * k) bytes) k ≡ entry_in bytes 0
  entry_written =
      ap (λ bs. entry_at bs k) (written-is blocks k bytes)
      ∙ ap (λ b. entry_in b (k % 32)) (get_or-set_same blocks (k / 32) (with_bytes (block_at blocks (k / 32)) (16 * (k % 32)) bytes) [] within)
      ∙ entry_here (block_at blocks (k / 32)) bytes size long (k % 32) (omega arith)

  -- the others
  pub entry_kept : (i : ℕ) → i ≢ k → entry_at (written blocks (16 * k) bytes) i ≡ entry_at blocks i
  entry_kept i apart = ap (λ bs. entry_at bs i) (written-is blocks k bytes) ∙ elim (cases_eq (i / 32) (k / 32)) [
    | inl same ↦
        let beside : i % 32 ≢ k % 32 = λ e. apart (omega (arith, same, e)) in
        ap (λ n. entry_in (block_at (set blocks (k / 32) (with_bytes (block_at blocks (k / 32)) (16 * (k % 32)) bytes)) n) (i % 32)) same
        ∙ ap (λ b. entry_in b (i % 32)) (get_or-set_same blocks (k / 32) (with_bytes (block_at blocks (k / 32)) (16 * (k % 32)) bytes) [] within)
        ∙ entry_beside (block_at blocks (k / 32)) bytes size long (k % 32) (omega arith) (i % 32) beside
        ∙ ap (λ n. entry_in (block_at blocks n) (i % 32)) (sym same)
    | inr other ↦ ap (λ b. entry_in b (i % 32)) (get_or-set_other blocks (k / 32) (i / 32) (with_bytes (block_at blocks (k / 32)) (16 * (k % 32)) bytes) [] other)
  ]

-- what the bytes of an entry say
pub entry_of_bytes : (file : FileId) (key : List ℕ) → file.number < 65536 → file.sequence < 65536 → ((i : ℕ) → slice_index key i < 65536)
    → entry_in (entry_bytes file key) 0 ≡ record { file = file; volume = 0; key = slice_index key 0 ∷ slice_index key 1 ∷ slice_index key 2 ∷ slice_index key 3 ∷ slice_index key 4 ∷ [] }
entry_of_bytes file key number sequence small =
    let file_number : word (entry_bytes file key) 0 ≡ file.number = of_word file.number number in
    let file_sequence : word (entry_bytes file key) 1 ≡ file.sequence = of_word file.sequence sequence in
    let first : word (entry_bytes file key) 3 ≡ slice_index key 0 = of_word (slice_index key 0) (small 0) in
    let second : word (entry_bytes file key) 4 ≡ slice_index key 1 = of_word (slice_index key 1) (small 1) in
    let third : word (entry_bytes file key) 5 ≡ slice_index key 2 = of_word (slice_index key 2) (small 2) in
    let ext : word (entry_bytes file key) 6 ≡ slice_index key 3 = of_word (slice_index key 3) (small 3) in
    let version : word (entry_bytes file key) 7 ≡ slice_index key 4 = of_word (slice_index key 4) (small 4) in
    λ s. record { file = record { number = file_number s; sequence = file_sequence s }; volume = 0; key = first s ∷ second s ∷ third s ∷ ext s ∷ version s ∷ [] }
  where
    of_word : (x : ℕ) → x < 65536 → x % 256 + 256 * (x / 256 % 256) ≡ x
    of_word x below = omega arith
