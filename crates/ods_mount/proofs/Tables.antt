-- How a table of what files have grows, file by file.
use Rattle.std.proofs.Common.{◌≡◌, ℕ, ◌+◌, ◌<◌, ◌⊎◌, true, false, List, length, slice_get, Some, inl, inr, sym, ap, ◌∙◌, subst, arith}
use Rattle.std.proofs.lemmas.Bool.{cases_lt}
use Rattle.std.proofs.lemmas.Option.{slice_get_within}
use Rattle.ods_mount.specs.Tables.{has, IsNoted, IsTable}

module _ (Has : ℕ → ℕ → ℕ → Type 0) where
  -- an empty set is the table of no file
  pub table_first : (set : List ℕ) → ((b : ℕ) → has set b ≡ false) → IsTable Has 0 set
  table_first set none = record {
    all = λ m v b low. absurd (omega arith);
    only = λ b member. absurd (let clash : true ≡ false = sym member ∙ none b in cc);
    once = λ m k v w b low. absurd (omega arith);
  }

  module _ (n : ℕ) where
    here : (m : ℕ) → m < n + 1 → (m < n) ⊎ (m ≡ n)
    here m low = elim (cases_lt m n) [ inl less ↦ inl less | inr more ↦ inr (omega arith) ]

    at_n : (m v b : ℕ) → m ≡ n → Has m v b → Has n v b
    at_n m v b e x = let P : ℕ → Type 0 = λ y. Has y v b in subst P e x

    -- a number that is no file changes nothing
    module _ (set : List ℕ) (none : (v b : ℕ) → ¬ Has n v b) (t : IsTable Has n set) where
      below : (m v b : ℕ) → m < n + 1 → Has m v b → m < n
      below m v b low x = elim (here m low) [ inl less ↦ less | inr e ↦ absurd (none v b (at_n m v b e x)) ]

      pub table_past : IsTable Has (n + 1) set
      table_past = record {
        all = λ m v b low x. t.all m v b (below m v b low x) x;
        only = λ b member. let o = t.only b member in (o.0, o.1, (let less = o.2 in omega arith), o.3);
        once = λ m k v w b low high x y. t.once m k v w b (below m v b low x) (below k w b high y) x y;
      }

    -- with the numbers of file n the table is that of one file more
    module _ (xs old set : List ℕ) (t : IsTable Has n old) (noted : IsNoted old set xs (length xs)) (place : ℕ → ℕ)
        (named : (v b : ℕ) → Has n v b → (j : ℕ) × (v ≡ place j) × (slice_get xs j ≡ Some b)) (holds : (j b : ℕ) → slice_get xs j ≡ Some b → Has n (place j) b) where
      within : (j b : ℕ) → slice_get xs j ≡ Some b → j < length xs
      within j b at_j = slice_get_within xs j b at_j

      -- no earlier file has what this one has
      apart : (j b m v : ℕ) → slice_get xs j ≡ Some b → m < n → ¬ Has m v b
      apart j b m v at_j below x =
          let clash : true ≡ false = sym (t.all m v b below x) ∙ noted.apart j b (within j b at_j) at_j in
          cc

      all_done : (m v b : ℕ) → m < n + 1 → Has m v b → has set b ≡ true
      all_done m v b low x = elim (here m low) [
        | inl less ↦ noted.stays b (t.all m v b less x)
        | inr e ↦ let at = named v b (at_n m v b e x) in noted.some at.0 b (within at.0 b at.2) at.2
      ]

      only_done : (b : ℕ) → has set b ≡ true → (m : ℕ) × (v : ℕ) × (m < n + 1) × Has m v b
      only_done b member = elim (noted.only b member) [
        | inl before ↦ let o = t.only b before in (o.0, o.1, (let less = o.2 in omega arith), o.3)
        | inr (j, low, at_j) ↦ (n, place j, omega arith, holds j b at_j)
      ]

      once_done : (m k v w b : ℕ) → m < n + 1 → k < n + 1 → Has m v b → Has k w b → (m ≡ k) × (v ≡ w)
      once_done m k v w b low high x y = elim (here m low) [
        | inl less ↦ elim (here k high) [
          | inl under ↦ t.once m k v w b less under x y
          | inr e ↦ let at = named w b (at_n k w b e y) in absurd (apart at.0 b m v at.2 less x)
        ]
        | inr e ↦ elim (here k high) [
          | inl under ↦ let at = named v b (at_n m v b e x) in absurd (apart at.0 b k w at.2 under y)
          | inr f ↦
              let one = named v b (at_n m v b e x) in
              let two = named w b (at_n k w b f y) in
              let same = noted.distinct one.0 two.0 b (within one.0 b one.2) (within two.0 b two.2) one.2 two.2 in
              (e ∙ sym f, one.1 ∙ ap place same ∙ sym two.1)
        ]
      ]

      pub table_done : IsTable Has (n + 1) set
      table_done = record { all = all_done; only = only_done; once = once_done }
