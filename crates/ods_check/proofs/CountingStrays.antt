-- How many numbers are in use that no file may have.
use Rattle.std.proofs.Common.{◌≡◌, ℕ, ◌+◌, ◌<◌, ◌≤◌, List, [], ◌∷◌, ◌++◌, length, inl, inr, refl, sym, subst, ap, ◌∙◌, arith}
use Rattle.std.specs.Prelude.{IsTrue}
use Rattle.std.specs.List.{All, Contains}
use Rattle.std.proofs.lemmas.Bool.{cases_lt}
use Rattle.std.proofs.lemmas.List.{length_push}
use Rattle.std.proofs.lemmas.List.Elements.{All-nil, All-cons, All-push, All-contains, Contains-append_left, Contains-push}
use Rattle.ods_space.specs.Layout.{VolumeLayout, is_in_use}
use Rattle.ods_check.specs.Findings.{IsStray, AreStrays, IsCountOfStrays, TellsStrays}
use Rattle.ods_check.specs.declared.finding.Finding.{Finding}
use Rattle.ods_check.proofs.Turning.{at_place, distinct_nil, distinct_push}

module _ (I : List (List ℕ)) (L : VolumeLayout) where
  pub strays_none : IsCountOfStrays I L 0 0 0
  strays_none = record {
    numbers = [];
    are = record { each = All-nil (λ n. (n < 0) × IsStray I L n); all = λ n low is. absurd (omega (arith, low)); once = distinct_nil };
    size = refl;
    lowest = λ some. absurd (omega (arith, some));
  }

  module _ (k count first : ℕ) (so : IsCountOfStrays I L k count first) where
    -- a number that is none
    pub strays_same : ¬ IsStray I L k → IsCountOfStrays I L (k + 1) count first
    strays_same none = record {
      numbers = so.numbers;
      are = record {
        each = λ i d low. let was = so.are.each i d low in let less = was.0 in (omega (arith, less), was.1);
        all = λ n low is. elim (cases_lt n k) [
          | inl less ↦ so.are.all n less is
          | inr more ↦ let same : n ≡ k = omega (arith, low, more) in absurd (none (subst (IsStray I L) same is))
        ];
        once = so.are.once;
      };
      size = so.size;
      lowest = so.lowest;
    }

    -- these, and one number more
    with_one : IsStray I L k → AreStrays I L (k + 1) (so.numbers ++ k ∷ [])
    with_one here = record {
      each = All-push (λ n. (n < k + 1) × IsStray I L n) so.numbers k (λ i d low. let was = so.are.each i d low in let less = was.0 in (omega (arith, less), was.1)) (omega arith, here);
      all = λ n low is. elim (cases_lt n k) [
        | inl less ↦ Contains-append_left so.numbers (k ∷ []) n (so.are.all n less is)
        | inr more ↦ let same : k ≡ n = omega (arith, low, more) in subst (Contains (so.numbers ++ k ∷ [])) same (Contains-push so.numbers k)
      ];
      once = distinct_push so.numbers k (λ i m at. (at_place (λ n. (n < k) × IsStray I L n) so.numbers i m so.are.each at).0) so.are.once;
    }

    more_size : length (so.numbers ++ k ∷ []) ≡ count + 1
    more_size = length_push so.numbers k ∙ ap (λ n. n + 1) (sym so.size)

    pub strays_more : IsStray I L k → 0 < count → IsCountOfStrays I L (k + 1) (count + 1) first
    strays_more here some = record {
      numbers = so.numbers ++ k ∷ [];
      are = with_one here;
      size = sym more_size;
      lowest = λ any.
          let was = so.lowest some in
          let less = (All-contains (λ n. (n < k) × IsStray I L n) so.numbers first so.are.each was.0).0 in
          (Contains-append_left so.numbers (k ∷ []) first was.0, All-push (λ n. first ≤ n) so.numbers k was.1 (omega (arith, less)));
    }

    pub strays_first : IsStray I L k → count ≡ 0 → IsCountOfStrays I L (k + 1) 1 k
    strays_first here none = record {
      numbers = so.numbers ++ k ∷ [];
      are = with_one here;
      size = sym (more_size ∙ ap (λ n. n + 1) none);
      lowest = λ any. (
        Contains-push so.numbers k,
        All-push (λ n. k ≤ n) so.numbers k (λ i d low. let size = so.size in absurd (omega (arith, low, size, none))) (omega arith),
      );
    }

    -- no number in use is behind k
    pub strays_all : k ≤ 65536 → ((n : ℕ) → n < 65536 → IsTrue (is_in_use I L.home n) → n < k) → IsCountOfStrays I L 65536 count first
    strays_all words few = record {
      numbers = so.numbers;
      are = record {
        each = λ i d low. let was = so.are.each i d low in let less = was.0 in (omega (arith, less, words), was.1);
        all = λ n low is. so.are.all n (few n low is.in_use) is;
        once = so.are.once;
      };
      size = so.size;
      lowest = so.lowest;
    }

  -- where there are none, nothing has to be told
  pub none_stray : (count first : ℕ) (found : List Finding) → IsCountOfStrays I L 65536 count first → count ≡ 0 → TellsStrays I L found
  none_stray count first found so none n low is =
      let there = (so.are.all n low is).1 in
      let size = so.size in
      absurd (omega (arith, there, size, none))
