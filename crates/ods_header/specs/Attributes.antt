-- Changing the attributes of a header.
use Rattle.std.specs.Prelude.{◌≡◌, ◌≤◌, ◌<◌, ◌⊎◌, ℕ, List, length}
use Rattle.ods_base.specs.Block.{byte, word, sum_of}
use Rattle.ods_header.specs.declared.header.Header.{Header}
use Rattle.ods_header.specs.Header.{attributes_of, header_of, IsValidHeader}

-- c is the block b with these attributes in bytes 14 to 45 and a new checksum; every other byte is unchanged
pub record IsWithAttributes (b new c : List ℕ) : Type 0 where
  pub size : length c ≡ length b
  pub attributes : attributes_of c ≡ new
  pub checksum : word c 255 ≡ sum_of c 255
  pub others : (i : ℕ) → (i < 14) ⊎ ((46 ≤ i) × (i < 510)) → byte c i ≡ byte b i

-- the fields of a header with new attributes
abbrev pub with_attributes : Header → List ℕ → Header
with_attributes h new = record h { attributes = new }

-- a valid header stays valid, and keeps every other field
abbrev pub KeepsOtherFields : List ℕ → List ℕ → List ℕ → Type 0
KeepsOtherFields b new c = (n : ℕ) → IsValidHeader b n → IsValidHeader c n × (header_of c ≡ with_attributes (header_of b) new)
