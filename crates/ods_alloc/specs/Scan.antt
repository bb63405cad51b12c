-- The scan of bitmaps, by words of 64 bits: from a number to the least one that passes a test.
use Rattle.std.specs.Prelude.{◌≡◌, ℕ, ◌+◌, ◌<◌, ◌≤◌, Bool, true, false, not, List, [], ◌∷◌}
use Rattle.ods_header.specs.declared.home.Home.{Home}
use Rattle.ods_space.specs.Layout.{is_in_use}
use Rattle.ods_alloc.specs.Extend.{last_of}

-- no number from a on and below b passes
abbrev pub NonePasses : (ℕ → Bool) → ℕ → ℕ → Type 0
NonePasses test a b = (k : ℕ) → a ≤ k → k < b → test k ≡ false

-- the least number from a on that passes
pub record IsNext (test : ℕ → Bool) (a n : ℕ) : Type 0 where
  pub above : a ≤ n
  pub passes : test n ≡ true
  pub least : NonePasses test a n

-- the index bit of n is clear
abbrev pub is_clear : List (List ℕ) → Home → ℕ → Bool
is_clear I h n = not (is_in_use I h n)

-- no number from a on passes
abbrev pub NoneIsNext : (ℕ → Bool) → ℕ → Type 0
NoneIsNext test a = (k : ℕ) → a ≤ k → test k ≡ false

-- the number at which a scan continues after these are found: after the last of them, or 0
abbrev pub start_behind : List ℕ → ℕ
start_behind [] = 0
start_behind (x ∷ xs) = last_of x xs + 1
