-- Keys of candidates: made one after another, then put in order.
use Rattle.std.proofs.Common.{◌≡◌, ◌⊎◌, inl, inr, ℕ, ◌+◌, ◌<◌, sym, ap, subst, List, [], ◌∷◌, ◌++◌, length, false, arith}
use Rattle.std.specs.Prelude.{nat_eq}
use Rattle.std.specs.List.{Contains, IsDistinct, list_any}
use Rattle.std.specs.List.Sorted.{IsPermutation, IsSorted}
use Rattle.std.specs.Ordering.{nat_cmp}
use Rattle.std.specs.Cmp.{nat_eq_equiv}
use Rattle.std.proofs.lemmas.Bool.{cases_lt, ne_eqb}
use Rattle.std.proofs.lemmas.List.{get_or_past}
use Rattle.std.proofs.lemmas.List.Elements.{All-contains_itself, All-weaker, Contains-append_left, Contains-push, Contains-push_cases}
use Rattle.std.proofs.lemmas.List.Folds.{list_any_none}
use Rattle.std.proofs.lemmas.List.Sorted.{Contains-permutation, IsPermutation-sym, IsNonDecreasingBy-from_sort}
use Rattle.std.proofs.lemmas.Map.Keys.{IsDistinct-push, IsDistinct-IsPermutation, IsStrictlyIncreasing-from_distinct}
use Rattle.ods_base.specs.Image.{block_at}
use Rattle.ods_header.specs.Header.{number_of}
use Rattle.ods_remains.specs.Candidates.{IsCandidate, HasCandidate}
use Rattle.ods_remains.specs.Keys.{key_of, key_at, place_of, AreKeysBelow, IsIndexOf}

-- keys that are one are of one LBN and of one place
pub one_lbn : (p q a c : ℕ) → a < 1048576 → c < 1048576 → key_of p a ≡ key_of q c → a ≡ c
one_lbn p q a c low_a low_c same = omega (arith, low_a, low_c, same)

pub one_place : (p q a c : ℕ) → a < 1048576 → c < 1048576 → key_of p a ≡ key_of q c → p ≡ q
one_place p q a c low_a low_c same = omega (arith, low_a, low_c, same)

-- a candidate stands within the image
pub within : (I : List (List ℕ)) (lbn : ℕ) → HasCandidate I lbn → lbn < length I
within I lbn there = elim (cases_lt lbn (length I)) [
  | inl low ↦ low
  | inr past ↦ absurd (there.numbered (ap number_of (get_or_past I lbn [] past)))
]

pub none_below : (I : List (List ℕ)) → AreKeysBelow I 0 []
unfolding IsDistinct
none_below I = record {
  only = λ key has. let none : has.0 < 0 = has.1 in absurd (omega arith);
  all = λ lbn low there. absurd (omega (arith, low));
  once = tt;
}

-- no number is equal to one that is not there
absent : (keys : List ℕ) (key : ℕ) → ¬ Contains keys key → list_any (nat_eq key) keys ≡ false
absent keys key none =
    list_any_none (nat_eq key) keys (All-weaker (Contains keys) (λ x. nat_eq key x ≡ false) (λ x has. ne_eqb key x (λ same. none (subst (Contains keys) (sym same) has))) keys (All-contains_itself keys))

-- the keys below n + 1, where those below n are known
pub one_below : (I : List (List ℕ)) (n : ℕ) (keys new : List ℕ) → n < 1048576 → AreKeysBelow I n keys
    → ((IsCandidate (block_at I n) × (new ≡ keys ++ key_at I n ∷ [])) ⊎ ((¬ IsCandidate (block_at I n)) × (new ≡ keys)))
    → AreKeysBelow I (n + 1) new
one_below I n keys new low was (inl put) = subst (AreKeysBelow I (n + 1)) (sym put.1) (record {
  only = λ key has. elim (Contains-push_cases keys (key_at I n) key has) [
    | inl before ↦ let of = was.only key before in (of.0, omega (arith, of.1), of.2, of.3)
    | inr last ↦ (n, omega arith, put.0, sym last)
  ];
  all = λ lbn below there. elim (cases_lt lbn n) [
    | inl before ↦ Contains-append_left keys (key_at I n ∷ []) (key_at I lbn) (was.all lbn before there)
    | inr last ↦ let here : n ≡ lbn = omega (arith, below, last) in subst (λ k. Contains (keys ++ key_at I n ∷ []) (key_at I k)) here (Contains-push keys (key_at I n))
  ];
  once = IsDistinct-push nat_eq_equiv keys (key_at I n) was.once (absent keys (key_at I n) (λ has.
      let of = was.only (key_at I n) has in
      let before : of.0 < n = of.1 in
      let same : key_at I n ≡ key_at I of.0 = of.3 in
      absurd (omega (arith, low, before, same))));
})
one_below I n keys new low was (inr kept) = subst (AreKeysBelow I (n + 1)) (sym kept.1) (record {
  only = λ key has. let of = was.only key has in (of.0, omega (arith, of.1), of.2, of.3);
  all = λ lbn below there. elim (cases_lt lbn n) [
    | inl before ↦ was.all lbn before there
    | inr last ↦ let here : lbn ≡ n = omega (arith, below, last) in absurd (kept.0 (subst (HasCandidate I) here there))
  ];
  once = was.once;
})

-- the same where the block is known by an equation
pub one_below_by : (I : List (List ℕ)) (n : ℕ) (b keys new : List ℕ) → n < 1048576 → b ≡ block_at I n → AreKeysBelow I n keys
    → ((IsCandidate b × (new ≡ keys ++ key_of (place_of b) n ∷ [])) ⊎ ((¬ IsCandidate b) × (new ≡ keys)))
    → AreKeysBelow I (n + 1) new
one_below_by I n b keys new low is was put =
    one_below I n keys new low was (subst (λ x. (IsCandidate x × (new ≡ keys ++ key_of (place_of x) n ∷ [])) ⊎ ((¬ IsCandidate x) × (new ≡ keys))) is put)

-- all keys, once they ascend, are an index
pub indexed : (I : List (List ℕ)) (keys new : List ℕ) → AreKeysBelow I (length I) keys → IsPermutation keys new → IsSorted nat_cmp new → IsIndexOf I new
indexed I keys new was moved sorted =
    let ascending = IsNonDecreasingBy-from_sort (λ x. x) new sorted in
    record {
      ascending = ascending;
      rising = IsStrictlyIncreasing-from_distinct new ascending (IsDistinct-IsPermutation nat_eq nat_eq_equiv.symm keys new moved was.once);
      only = λ key has. let of = was.only key (Contains-permutation new keys key (IsPermutation-sym keys new moved) has) in (of.0, of.2, of.3);
      all = λ lbn there. Contains-permutation keys new (key_at I lbn) moved (was.all lbn (within I lbn there) there);
    }
