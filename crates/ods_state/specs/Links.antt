-- The links of a header in its chain. Two headers with the same links can replace each other.
use Rattle.std.specs.Prelude.{◌≡◌, ℕ, List}
use Rattle.ods_header.specs.Header.{IsValidHeader, segment_of, sequence_of, next_volume_of, next_number_of, next_sequence_of, blocks_of}

-- as header n, c has the links of b: it is valid if b is, and has the same segment, next header and blocks
pub record SameLinks (b c : List ℕ) (n : ℕ) : Type 0 where
  pub valid : IsValidHeader b n → IsValidHeader c n
  pub segment : segment_of c ≡ segment_of b
  pub sequence : sequence_of c ≡ sequence_of b
  pub next_number : next_number_of c ≡ next_number_of b
  pub next_sequence : next_sequence_of c ≡ next_sequence_of b
  pub next_volume : next_volume_of c ≡ next_volume_of b
  pub blocks : blocks_of c ≡ blocks_of b
