-- The whole blocks at the front of some bytes.
use Rattle.std.specs.Prelude.{ℕ, ◌*◌, ◌/◌, List, length, take, Option, option_map}
use Rattle.std.specs.Io.KnownBytes.{prepend_known}

-- all whole blocks at the start of these bytes
abbrev pub whole_front : List ℕ → List ℕ
whole_front bytes = take (512 * (length bytes / 512)) bytes

-- the whole blocks of the held bytes and the bytes that a reader has left after them, if these are known
abbrev pub blocks_left : List ℕ → Option (List ℕ) → Option (List ℕ)
blocks_left held left = option_map whole_front (prepend_known held left)
