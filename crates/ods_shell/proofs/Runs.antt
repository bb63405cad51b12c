-- The longest run of free blocks, by the runs that end before each LBN; and file numbers in use, counted one by one.
use Rattle.std.proofs.Common.{◌≡◌, ◌⊎◌, inl, inr, ℕ, zero, suc, ◌+◌, ◌-◌, ◌<◌, ◌≤◌, refl, ap, ◌∙◌, subst, Bool, true, false, cond, List, [], ◌∷◌, length, length-append, arith}
use Rattle.std.specs.Prelude.{◌↔◌, ◌&&◌, nat_lt, max}
use Rattle.std.specs.List.{filter, range_with_len}
use Rattle.std.proofs.lemmas.Bool.{cases_eq, le-ltb}
use Rattle.std.proofs.lemmas.List.Elements.{filter-append}
use Rattle.ods_space.specs.Layout.{VolumeLayout}
use Rattle.ods_space.specs.Free.{is_free_block, is_covered, storage_bit}
use Rattle.ods_alloc.proofs.Scans.{range-append}
use Rattle.ods_shell.specs.Space.{EndsRun, HasFreeRun}

pub le_or_lt : (a b : ℕ) → (a ≤ b) ⊎ (b < a)
le_or_lt zero b = inl (omega arith)
le_or_lt (suc a) zero = inr (omega arith)
le_or_lt (suc a) (suc b) = elim (le_or_lt a b) [ inl below ↦ inl (omega arith) | inr above ↦ inr (omega arith) ]

module _ (I : List (List ℕ)) (L : VolumeLayout) where
  -- n blocks from this one on are free
  abbrev pub AreFree : ℕ → ℕ → Type 0
  AreFree from n = (k : ℕ) → k < n → is_free_block I L (from + k) ≡ true

  pub run_more : (lbn n : ℕ) → is_free_block I L lbn ≡ true → EndsRun I L lbn n → EndsRun I L (lbn + 1) (n + 1)
  run_more lbn n free run = (
    run.0,
    (let ends : run.0 + n ≡ lbn = run.1 in omega arith),
    (λ k small. elim (cases_eq k n) [
      | inl last ↦ subst (λ b. is_free_block I L b ≡ true) (let ends : run.0 + n ≡ lbn = run.1 in let here : lbn ≡ run.0 + k = omega arith in here) free
      | inr other ↦ run.2 k (omega arith)
    ]),
    run.3,
  )

  pub run_none : (lbn : ℕ) → is_free_block I L lbn ≡ false → EndsRun I L (lbn + 1) 0
  run_none lbn held = (
    lbn + 1,
    omega arith,
    (λ k small. absurd (omega arith)),
    inr (subst (λ b. is_free_block I L b ≡ false) (let here : lbn ≡ lbn + 1 - 1 = omega arith in here) held),
  )

  -- of the runs that end before this LBN, or at it, the longest has so many blocks
  pub record IsLongestTo (at longest : ℕ) : Type 0 where
    pub from : ℕ
    pub free : AreFree from longest
    pub most : (start n : ℕ) → start + n ≤ at → AreFree start n → n ≤ longest

  pub longest_none : IsLongestTo 0 0
  longest_none = record { from = 0; free = λ k small. absurd (omega arith); most = λ start n within free. omega arith }

  clash : (b : Bool) → b ≡ true → b ≡ false → ⊥
  clash true yes_it no_it = absurd (cc no_it)
  clash false yes_it no_it = absurd (cc yes_it)

  -- a run that ends here is no longer than the one that ends here and goes back furthest
  no_longer : (at n start m : ℕ) → EndsRun I L at n → start + m ≡ at → AreFree start m → m ≤ n
  no_longer at n start m run ends free = by (le_or_lt m n)
    where
      by : (m ≤ n) ⊎ (n < m) → m ≤ n
      by (inl small) = small
      by (inr large) =
          let run_ends : run.0 + n ≡ at = run.1 in
          elim run.3 [
            | inl first ↦ (let zero_is : run.0 ≡ 0 = first in omega arith)
            | inr held ↦ (
                let within : run.0 - 1 - start < m = omega arith in
                let here : start + (run.0 - 1 - start) ≡ run.0 - 1 = omega arith in
                absurd (clash (is_free_block I L (run.0 - 1)) (subst (λ b. is_free_block I L b ≡ true) here (free (run.0 - 1 - start) within)) held))
          ]

  pub longest_more : (at longest n : ℕ) → IsLongestTo at longest → EndsRun I L (at + 1) n → IsLongestTo (at + 1) (max longest n)
  longest_more at longest n before run = by (le_or_lt n longest)
    where
      upper : (start m : ℕ) → start + m ≤ at + 1 → AreFree start m → (m ≤ longest) ⊎ (m ≤ n)
      upper start m within free = elim (cases_eq (start + m) (at + 1)) [
        | inl same ↦ inr (no_longer (at + 1) n start m run same free)
        | inr other ↦ inl (before.most start m (omega arith) free)
      ]

      by : (n ≤ longest) ⊎ (longest < n) → IsLongestTo (at + 1) (max longest n)
      by (inl small) = let is : longest ≡ max longest n = omega arith in subst (IsLongestTo (at + 1)) is (record {
        from = before.from;
        free = before.free;
        most = λ start m within free. elim (upper start m within free) [ inl below ↦ below | inr here ↦ omega arith ];
      })
      by (inr large) = let is : n ≡ max longest n = omega arith in subst (IsLongestTo (at + 1)) is (record {
        from = run.0;
        free = run.2;
        most = λ start m within free. elim (upper start m within free) [ inl below ↦ omega arith | inr here ↦ here ];
      })

  -- a free block is one of the image
  inside : (lbn : ℕ) → is_free_block I L lbn ≡ true → lbn < length I
  inside lbn free = by (le_or_lt (length I) lbn)
    where
      no : (b c : Bool) → b ≡ false → b && c ≡ true → ⊥
      no true c none all = absurd (cc none)
      no false c none all = absurd (cc all)

      by : (length I ≤ lbn) ⊎ (lbn < length I) → lbn < length I
      by (inr below) = below
      by (inl past) = absurd (no (nat_lt lbn (length I)) (is_covered L lbn && storage_bit I L lbn) (le-ltb lbn (length I) past) free)

  -- at the end of the image it is the longest of all
  pub longest_of_all : (longest : ℕ) → IsLongestTo (length I) longest → (n : ℕ) → (n ≤ longest) ↔ HasFreeRun I L n
  longest_of_all longest is n = (
    (λ small. (is.from, λ k within. is.free k (omega arith))),
    (λ run. by run (le_or_lt (run.0 + n) (length I))),
  )
    where
      by : (run : HasFreeRun I L n) → (run.0 + n ≤ length I) ⊎ (length I < run.0 + n) → n ≤ longest
      by run (inl within) = is.most run.0 n within run.1
      by run (inr past) = elim (cases_eq n 0) [
        | inl none ↦ omega arith
        | inr some ↦ (
            let last : run.0 + (n - 1) < length I = inside (run.0 + (n - 1)) (run.1 (n - 1) (omega arith)) in
            absurd (omega arith))
      ]

-- one more number is counted
pub counted_more : (p : ℕ → Bool) (k : ℕ) → length (filter p (range_with_len 1 (k + 1))) ≡ length (filter p (range_with_len 1 k)) + cond (p (k + 1)) 1 0
counted_more p k =
    let next : 1 + k ≡ k + 1 = omega arith in
    ap (λ l. length (filter p l)) (range-append 1 k 1) ∙ ap length (filter-append p (range_with_len 1 k) ((1 + k) ∷ [])) ∙ length-append (filter p (range_with_len 1 k)) (filter p ((1 + k) ∷ []))
    ∙ ap (λ n. length (filter p (range_with_len 1 k)) + n) (one (p (1 + k)) (1 + k) ∙ ap (λ n. cond (p n) 1 0) next)
  where
    one : (b : Bool) (n : ℕ) → length (cond b (n ∷ []) []) ≡ cond b 1 0
    one true n = refl
    one false n = refl
