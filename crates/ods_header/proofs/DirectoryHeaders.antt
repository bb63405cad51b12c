-- The test whether a header is a directory's: what it tells of the file's number.
use Rattle.std.proofs.Common.{◌≡◌, ◌≢◌, ℕ, ◌<◌, ◌⊎◌, Bool, true, false, List, inl, inr, refl, sym, ◌∙◌, arith}
use Rattle.std.specs.Prelude.{◌==◌, ◌||◌, ◌&&◌, nat_lt}
use Rattle.std.proofs.lemmas.Bool.{eqb-true, ltb-true}
use Rattle.ods_base.specs.Name.{directory_type}
use Rattle.ods_header.specs.Header.{ident_ext_of, is_directory_header}

-- file 4 is a directory, or one above the reserved ones
pub directory_number : (n : ℕ) (b : List ℕ) → is_directory_header n b ≡ true → (n ≡ 4) ⊎ (5 < n)
directory_number n b e = by_tests (n == 4) (nat_lt 5 n) (ident_ext_of b == directory_type) refl refl e
  where
    by_tests : (x y z : Bool) → (n == 4) ≡ x → nat_lt 5 n ≡ y → (x || (y && z)) ≡ true → (n ≡ 4) ⊎ (5 < n)
    by_tests true y z ex ey h = inl (eqb-true n 4 ex)
    by_tests false true z ex ey h = inr (ltb-true 5 n ey)
    by_tests false false z ex ey h = absurd (cc)

-- so it is none of the others that lay out a volume
pub is_apart : (n : ℕ) (b : List ℕ) → is_directory_header n b ≡ true → (k : ℕ) → k < 6 → k ≢ 4 → n ≢ k
is_apart n b kind k low other e = by_number (directory_number n b kind)
  where
    by_number : (n ≡ 4) ⊎ (5 < n) → ⊥
    by_number (inl four) = other (sym e ∙ four)
    by_number (inr high) = absurd (omega (arith, e, low, high))

-- and behind both maps
pub above_maps : (n : ℕ) (b : List ℕ) → is_directory_header n b ≡ true → 2 < n
above_maps n b kind = by_number (directory_number n b kind)
  where
    by_number : (n ≡ 4) ⊎ (5 < n) → 2 < n
    by_number (inl four) = omega (arith, four)
    by_number (inr high) = omega (arith, high)
