-- Bytes that are the same, one part after another.
use Rattle.std.proofs.Common.{◌≡◌, ◌≢◌, ℕ, ◌+◌, List, ◌++◌, take, sym, ap, ◌∙◌}
use Rattle.std.proofs.lemmas.List.{append_cancel_left}

module _ (X Y : List ℕ) (m count : ℕ) (a b : List ℕ) (p : take (m + count) X ≡ take m X ++ take count a) (q : take (m + count) Y ≡ take m Y ++ take count b) (before : take m X ≡ take m Y) where
  -- one part more
  pub same_on : (n : ℕ) → m + count ≡ n → take count a ≡ take count b → take n X ≡ take n Y
  same_on n e front =
      ap (λ k. take k X) (sym e) ∙ p ∙ ap (λ l. l ++ take count a) before ∙ ap (λ l. take m Y ++ l) front ∙ sym q ∙ ap (λ k. take k Y) e

  -- a part that is another one
  pub other_part : take count a ≢ take count b → X ≢ Y
  other_part other e =
      other (append_cancel_left (take m Y) (take count a) (take count b) (ap (λ l. l ++ take count a) (sym before) ∙ sym p ∙ ap (λ l. take (m + count) l) e ∙ q))
