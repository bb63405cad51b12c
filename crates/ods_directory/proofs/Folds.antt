-- Folds over a range of numbers.
use Rattle.std.proofs.Common.{◌≡◌, ℕ, zero, suc, ◌+◌, ◌-◌, ◌<◌, ◌≤◌, refl, sym, ap, subst, ◌∙◌, arith, fold}
use Rattle.std.specs.List.{range_with_len}

module _ {S : Type 0} where
  -- one more number at the end
  pub fold_more : (f : S → ℕ → S) (s : S) (a n : ℕ) → fold f s (range_with_len a (n + 1)) ≡ f (fold f s (range_with_len a n)) (a + n)
  fold_more f s a zero = let position : a ≡ a + 0 = omega arith in ap (f s) position
  fold_more f s a (suc n) =
      let more : suc n + 1 ≡ suc (n + 1) = omega arith in
      let position : a + 1 + n ≡ a + suc n = omega arith in
      rw more (fold_more f (f s a) (a + 1) n ∙ ap (f (fold f (f s a) (range_with_len (a + 1) n))) position)

  pub fold_next : (f : S → ℕ → S) (s : S) (n : ℕ) → fold f s (range_with_len 0 (n + 1)) ≡ f (fold f s (range_with_len 0 n)) n
  fold_next f s n = let position : 0 + n ≡ n = omega arith in fold_more f s 0 n ∙ ap (f (fold f s (range_with_len 0 n))) position

  -- more numbers at the end, under another function that agrees there
  pub fold_onward : (f g : S → ℕ → S) (s : S) (a n : ℕ) → ((t : S) (k : ℕ) → k < n → g t k ≡ f t (a + k)) → fold g (fold f s (range_with_len 0 a)) (range_with_len 0 n) ≡ fold f s (range_with_len 0 (a + n))
  fold_onward f g s a zero same = let position : a ≡ a + 0 = omega arith in ap (λ m. fold f s (range_with_len 0 m)) position
  fold_onward f g s a (suc n) same =
      let before : fold g (fold f s (range_with_len 0 a)) (range_with_len 0 n) ≡ fold f s (range_with_len 0 (a + n)) = fold_onward f g s a n (λ t k below. same t k (omega arith)) in
      let position : 0 + (a + n) ≡ a + n = omega arith in
      let last : 0 + n ≡ n = omega arith in
      let more : suc n ≡ n + 1 = omega arith in
      let whole : a + suc n ≡ a + n + 1 = omega arith in
      ap (λ m. fold g (fold f s (range_with_len 0 a)) (range_with_len 0 m)) more ∙ fold_more g (fold f s (range_with_len 0 a)) 0 n ∙ ap (λ t. g t (0 + n)) before ∙ ap (g (fold f s (range_with_len 0 (a + n)))) last
      ∙ same (fold f s (range_with_len 0 (a + n))) n (omega arith)
      ∙ ap (f (fold f s (range_with_len 0 (a + n)))) (sym position) ∙ sym (fold_more f s 0 (a + n)) ∙ ap (λ m. fold f s (range_with_len 0 m)) (sym whole)

  -- a value that no step changes
  pub fold_kept : (f : S → ℕ → S) (s : S) (a n : ℕ) → ((k : ℕ) → f s k ≡ s) → fold f s (range_with_len a n) ≡ s
  fold_kept f s a zero kept = refl
  fold_kept f s a (suc n) kept = ap (λ t. fold f t (range_with_len (a + 1) n)) (kept a) ∙ fold_kept f s (a + 1) n kept

  -- a value that no step of the range changes
  pub fold_kept_within : (f : S → ℕ → S) (s : S) (a n : ℕ) → ((k : ℕ) → a ≤ k → k < a + n → f s k ≡ s) → fold f s (range_with_len a n) ≡ s
  fold_kept_within f s a zero kept = refl
  fold_kept_within f s a (suc n) kept =
      ap (λ t. fold f t (range_with_len (a + 1) n)) (kept a (omega arith) (omega arith)) ∙ fold_kept_within f s (a + 1) n (λ k from below. kept k (omega arith) (omega arith))

  -- a value that no step changes any more is that of the whole range
  pub fold_stopped : (f : S → ℕ → S) (s t : S) (n m : ℕ) → n ≤ m → t ≡ fold f s (range_with_len 0 n) → ((k : ℕ) → f t k ≡ t) → t ≡ fold f s (range_with_len 0 m)
  fold_stopped f s t n m below e kept =
      let whole : n + (m - n) ≡ m = omega arith in
      sym (fold_kept (λ u k. f u (n + k)) t 0 (m - n) (λ k. kept (n + k)))
      ∙ ap (λ u. fold (λ v k. f v (n + k)) u (range_with_len 0 (m - n))) e
      ∙ fold_onward f (λ u k. f u (n + k)) s n (m - n) (λ u k _. refl)
      ∙ ap (λ k. fold f s (range_with_len 0 k)) whole

  -- a fact that each step keeps
  pub fold_keeps : (P : ℕ → S → Type 0) (f : S → ℕ → S) (s : S) (m : ℕ) → P 0 s → ((n : ℕ) (t : S) → P n t → P (n + 1) (f t n)) → P m (fold f s (range_with_len 0 m))
  fold_keeps P f s zero first step = first
  fold_keeps P f s (suc m) first step =
      let more : m + 1 ≡ suc m = omega arith in
      subst (λ n. P n (fold f s (range_with_len 0 n))) more (subst (P (m + 1)) (sym (fold_next f s m)) (step m (fold f s (range_with_len 0 m)) (fold_keeps P f s m first step)))

-- a part of a value whose steps are those of the part
pub fold_part : {S T : Type 0} (part : S → T) (f : S → ℕ → S) (g : T → ℕ → T) → ((s : S) (k : ℕ) → part (f s k) ≡ g (part s) k) → (s : S) (a n : ℕ) → part (fold f s (range_with_len a n)) ≡ fold g (part s) (range_with_len a n)
fold_part part f g same s a zero = refl
fold_part part f g same s a (suc n) = fold_part part f g same (f s a) (a + 1) n ∙ ap (λ t. fold g t (range_with_len (a + 1) n)) (same s a)
