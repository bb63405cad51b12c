-- Clearing the contiguous bit of a header.
use Rattle.std.specs.Prelude.{◌≡◌, ◌≢◌, ◌<◌, ℕ, bit_and, List, length}
use Rattle.ods_base.specs.Block.{byte, word, sum_of}
use Rattle.ods_header.specs.declared.header.Header.{Header}
use Rattle.ods_header.specs.Header.{user_char_of, header_of, IsValidHeader}

-- c is the header block b without UC.CON, the highest bit of the user characteristics, and with a new checksum; every other byte is unchanged
pub record IsWithoutContiguous (b c : List ℕ) : Type 0 where
  pub size : length c ≡ length b
  pub cleared : user_char_of c ≡ bit_and (user_char_of b) 127
  pub checksum : word c 255 ≡ sum_of c 255
  pub others : (i : ℕ) → i ≢ 12 → i < 510 → byte c i ≡ byte b i

-- the fields of a header with new user characteristics
abbrev pub with_user_char : Header → ℕ → Header
with_user_char h char = record h { user_char = char }

-- a valid header stays valid, and keeps every other field
abbrev pub KeepsAllButContiguous : List ℕ → List ℕ → Type 0
KeepsAllButContiguous b c = (n : ℕ) → IsValidHeader b n → IsValidHeader c n × (header_of c ≡ with_user_char (header_of b) (bit_and (user_char_of b) 127))
