-- What the place of the first separator says of the cut there.
use Rattle.std.proofs.Common.{◌≡◌, ℕ, zero, suc, ◌+◌, ◌<◌, false, List, [], ◌∷◌, length, take, drop, Some, None, refl, sym, ap, ◌∙◌, arith, add-one}
use Rattle.std.specs.Option.{option_map}
use Rattle.ods_text.specs.Cuts.{is, IsFirst, cut_of}

-- the place in the rest, where the first is another
later : (c b : ℕ) (xs : List ℕ) (n : ℕ) → IsFirst (is c) (b ∷ xs) (suc n) → IsFirst (is c) xs n
later c b xs n p = record {
  within = omega (arith, p.within);
  before = λ k h. p.before (suc k) (omega arith);
  found = λ h. p.found (omega arith);
}

-- the cut goes on where the first is another
goes_on : (c b : ℕ) (xs : List ℕ) → is c b ≡ false → cut_of c (b ∷ xs) ≡ option_map (λ (p : List ℕ × List ℕ). (b ∷ p.0, p.1)) (cut_of c xs)
goes_on c b xs other = rw other refl

-- the cut is at the place
there : (c : ℕ) (xs : List ℕ) (n : ℕ) → IsFirst (is c) xs n → n < length xs → cut_of c xs ≡ Some (take n xs, drop (suc n) xs)
there c [] n p h = absurd (omega arith)
there c (b ∷ xs) zero p h = rw (p.found h) refl
there c (b ∷ xs) (suc n) p h =
    goes_on c b xs (p.before 0 (omega arith))
    ∙ ap (option_map (λ (q : List ℕ × List ℕ). (b ∷ q.0, q.1))) (there c xs n (later c b xs n p) (omega arith))

-- the same with the code's number
pub cut_there : (c : ℕ) (xs : List ℕ) (n : ℕ) → IsFirst (is c) xs n → n < length xs → cut_of c xs ≡ Some (take n xs, drop (n + 1) xs)
cut_there c xs n p h = there c xs n p h ∙ ap (λ (k : ℕ). Some (take n xs, drop k xs)) (sym (add-one n))

-- where there is none, nothing is cut
pub cut_nowhere : (c : ℕ) (xs : List ℕ) (n : ℕ) → IsFirst (is c) xs n → n ≡ length xs → cut_of c xs ≡ None
cut_nowhere c [] n p h = refl
cut_nowhere c (b ∷ xs) zero p h = absurd (omega (arith, h))
cut_nowhere c (b ∷ xs) (suc n) p h =
    goes_on c b xs (p.before 0 (omega arith))
    ∙ ap (option_map (λ (q : List ℕ × List ℕ). (b ∷ q.0, q.1))) (cut_nowhere c xs n (later c b xs n p) (omega arith))
