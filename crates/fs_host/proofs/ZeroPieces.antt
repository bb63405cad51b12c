-- A piece of zeros more.
use Rattle.std.specs.Prelude.{◌≡◌, ◌⊎◌, ℕ, ◌+◌, ◌-◌, ◌*◌, ◌<◌, ◌≤◌, Bool, true, false, not, nat_le, ◌&&◌, List, length, take, drop, replicate}
use Rattle.std.specs.List.{list_all}
use Rattle.std.proofs.Common.{refl, ap, ◌∙◌, arith, length-drop, inl, inr}
use Rattle.std.proofs.Math.Bool.{beq}
use Rattle.std.proofs.Math.Nat.{eq-or-lt_of_le}
use Rattle.std.proofs.Math.Seq.{take-add}
use Rattle.std.proofs.Math.Facts.{leb_yes}
use Rattle.std.proofs.lemmas.Float.{T_from_true}
use Rattle.std.proofs.lemmas.List.{length-take-le}
use Rattle.std.proofs.lemmas.List.Folds.{list_all-append}
use Rattle.fs_host.specs.Compared.{is_zero}
use Rattle.fs_host.specs.Holes.{begins_in_zeros}
use Rattle.fs_host.proofs.Comparing.{all_zeros}

-- both are true
both : (a b : Bool) → (a && b) ≡ true → (a ≡ true) × (b ≡ true)
both true true e = (refl, refl)
both true false e = (refl, e)
both false b e = absurd (cc)

-- both of two, and then the two
joined : (a b : Bool) → a ≡ true → b ≡ true → (a && b) ≡ true
joined true true p q = refl
joined true false p q = q
joined false b p q = absurd (cc)

-- the two are not unlike
pub same : (a b : Bool) → not (beq a b) ≡ false → a ≡ b
same true true e = refl
same true false e = absurd (cc)
same false true e = absurd (cc)
same false false e = refl

-- bytes that begin with a piece of zeros have it
pub has_piece : (size : ℕ) (bytes : List ℕ) → begins_in_zeros size bytes ≡ true → (size ≤ length bytes) × (list_all is_zero (take size bytes) ≡ true)
has_piece size bytes e =
    let p = both (nat_le size (length bytes)) (list_all is_zero (take size bytes)) e in
    (leb_yes (T_from_true (nat_le size (length bytes)) p.0), p.1)

-- a piece of zeros stands behind zeros
pub zeros_more : (size at : ℕ) (bytes : List ℕ) → at ≤ length bytes → list_all is_zero (take at bytes) ≡ true → begins_in_zeros size (drop at bytes) ≡ true
    → (at + size ≤ length bytes) × (list_all is_zero (take (at + size) bytes) ≡ true)
zeros_more size at bytes within before e =
    let p = has_piece size (drop at bytes) e in
    let long : length (drop at bytes) ≡ length bytes - at = length-drop at bytes in (
      omega (arith, p.0, long, within),
      ap (list_all is_zero) (take-add at size bytes) ∙ list_all-append is_zero (take at bytes) (take size (drop at bytes)) ∙ joined _ _ before p.1,
    )

-- zeros, as many as there are
pub are_so_many : (bytes : List ℕ) (n : ℕ) → n ≤ length bytes → list_all is_zero (take n bytes) ≡ true → take n bytes ≡ replicate n 0
are_so_many bytes n within all = all_zeros (take n bytes) all ∙ ap (λ k. replicate k 0) (length-take-le n bytes within)

-- each piece up to here is of one kind, and so is the next
pub each_more : (size : ℕ) (bytes : List ℕ) (of_zeros : Bool) (n : ℕ) → ((k : ℕ) → k < n → begins_in_zeros size (drop (size * k) bytes) ≡ of_zeros) → begins_in_zeros size (drop (size * n) bytes) ≡ of_zeros
    → (k : ℕ) → k < n + 1 → begins_in_zeros size (drop (size * k) bytes) ≡ of_zeros
each_more size bytes of_zeros n each next k low = pick (eq-or-lt_of_le {n = k} {m = n} (omega (arith, low)))
  where
    pick : (k ≡ n) ⊎ (k < n) → begins_in_zeros size (drop (size * k) bytes) ≡ of_zeros
    pick (inl e) = ap (λ m. begins_in_zeros size (drop (size * m) bytes)) e ∙ next
    pick (inr h) = each k h
