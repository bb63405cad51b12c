-- Pieces of zeros among bytes, which a file may lack.
use Rattle.std.specs.Prelude.{◌≡◌, ◌*◌, ◌<◌, ℕ, Bool, nat_le, ◌&&◌, not, List, length, take, drop}
use Rattle.std.specs.List.{list_all}
use Rattle.fs_host.specs.Compared.{is_zero}

-- the bytes begin with a whole piece of zeros, of this size
abbrev pub begins_in_zeros : ℕ → List ℕ → Bool
begins_in_zeros size bytes = nat_le size (length bytes) && list_all is_zero (take size bytes)

-- The first n of these bytes are all pieces of this size of one kind: zeros, or not whole or not all zeros. If bytes are left, the next piece is of
-- the other kind.
pub record IsRun (size : ℕ) (bytes : List ℕ) (of_zeros : Bool) (n : ℕ) : Type 0 where
  pub each : (k : ℕ) → size * k < n → begins_in_zeros size (drop (size * k) bytes) ≡ of_zeros
  pub ends : n < length bytes → begins_in_zeros size (drop n bytes) ≡ not of_zeros
