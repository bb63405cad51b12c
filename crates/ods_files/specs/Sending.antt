-- Bytes on their way to a writer: the written bytes, and the bytes that a piece still holds.
use Rattle.std.specs.Prelude.{◌≡◌, ℕ, ◌+◌, List, ◌++◌, length, take, Option}
use Rattle.std.specs.Io.KnownBytes.{Appends}

-- the writer, whose contents were `old` and are `new`, took `written` of the first `at` of these bytes, and the piece has the others
pub record IsSending (bytes : List ℕ) (old new : Option (List ℕ)) (at written : ℕ) (piece : List ℕ) : Type 0 where
  pub sent : Appends old new (take written bytes)
  pub held : take written bytes ++ piece ≡ take at bytes
  pub count : written + length piece ≡ at
