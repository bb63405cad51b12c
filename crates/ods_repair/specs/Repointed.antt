-- A header with one pointer to another run of the same length.
use Rattle.std.specs.Prelude.{◌≡◌, ℕ, ◌+◌, ◌*◌, ◌<◌, ◌≤◌, ◌⊎◌, List, length}
use Rattle.ods_base.specs.Block.{byte, word, sum_of}
use Rattle.ods_header.specs.Header.{IsValidHeader, map_word, run_at}

-- the offset of pointer `at` in header b, in bytes
abbrev pub pointer_byte : List ℕ → ℕ → ℕ
pointer_byte b at = 2 * map_word b + 10 + 4 * at

-- c is the header block b with LBN `to` in pointer `at`: the pointer names as many blocks as before, the checksum is new, and every other byte is
-- unchanged
pub record IsRepointed (b : List ℕ) (at to : ℕ) (c : List ℕ) : Type 0 where
  pub size : length c ≡ length b
  pub run : run_at c at ≡ record { lbn = to; count = (run_at b at).count }
  pub checksum : word c 255 ≡ sum_of c 255
  pub others : (i : ℕ) → i < 510 → (i < pointer_byte b at) ⊎ (pointer_byte b at + 4 ≤ i) → byte c i ≡ byte b i

-- A header keeps all facts of its file: it stays valid if it was, and each byte before its first pointer is unchanged.
pub record KeepsFile (b c : List ℕ) : Type 0 where
  pub size : length c ≡ length b
  pub valid : (n : ℕ) → IsValidHeader b n → IsValidHeader c n
  pub bytes : (i : ℕ) → i < pointer_byte b 0 → byte c i ≡ byte b i
