-- Sets of numbers, one bit each, by their members.
use Rattle.std.specs.Prelude.{◌≡◌, ℕ, true, List}
use Rattle.ods_mount.specs.Tables.{has}

-- a number is in the set if and only if it has the property P
pub record IsSetOf (P : ℕ → Type 0) (set : List ℕ) : Type 0 where
  pub only : (x : ℕ) → has set x ≡ true → P x
  pub all : (x : ℕ) → P x → has set x ≡ true
