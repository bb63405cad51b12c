-- Which of the keys of one place is nearest: the last one below, or the first one that is not.
use Rattle.std.proofs.Common.{◌≡◌, inl, inr, ℕ, ◌-◌, ◌*◌, ◌<◌, ◌≤◌, sym, ap, subst, List, length, get_or, Option, Some, None, arith, ◌∙◌}
use Rattle.std.specs.Prelude.{slice_get}
use Rattle.std.specs.Int.{abs_diff}
use Rattle.std.specs.List.{Contains}
use Rattle.std.specs.List.Sorted.{IsNonDecreasing, IsPartitionPoint}
use Rattle.std.proofs.lemmas.Bool.{cases_lt}
use Rattle.std.proofs.lemmas.Option.{slice_get-get_or, get_or_from_slice_get, slice_get_within, same_Some}
use Rattle.ods_remains.specs.Candidates.{IsNearer}
use Rattle.ods_remains.specs.Keys.{key_of, IsLbnAt, IsLbnBefore, IsCloserOf, IsNearestOf}

-- on one side of an LBN the one between is nearer
nearer_up : (a c d : ℕ) → a ≤ c → c ≤ d → IsNearer a c d
nearer_up a c d low high = elim (cases_lt c d) [
  | inl below ↦ inl (omega (arith, low, below))
  | inr same ↦ inr (omega (arith, low, high, same), high)
]

nearer_down : (a c d : ℕ) → d ≤ c → c < a → IsNearer a c d
nearer_down a c d low high = elim (cases_lt d c) [
  | inl below ↦ inl (omega (arith, low, high, below))
  | inr same ↦ inr (omega (arith, low, high, same), same)
]

-- the lower of two on both sides, where it is as near
nearer_across : (a b f d : ℕ) → b < a → a ≤ f → f ≤ d → abs_diff a b ≤ abs_diff a f → IsNearer a b d
nearer_across a b f d low high more near = elim (cases_lt (abs_diff a b) (abs_diff a d)) [
  | inl below ↦ inl below
  | inr same ↦ inr (omega (arith, low, high, more, near, same), omega (arith, low, high, more))
]

module _ (keys : List ℕ) (ascending : IsNonDecreasing keys) (place a at : ℕ) (low : a < 1048576) (point : IsPartitionPoint (λ y. y < key_of place a) (λ y. key_of place a ≤ y) keys at) where
  -- the key that stands at an index
  named_at : (j v : ℕ) → j < length keys → get_or keys j 0 ≡ v → slice_get keys j ≡ Some v
  named_at j v inside is = slice_get-get_or keys j 0 inside ∙ ap Some is

  -- A key of this place that is not below has before it, or is, the first one that is not.
  from_here : (d : ℕ) → d < 1048576 → (has : Contains keys (key_of place d)) → at ≤ has.0
      → (c : ℕ) × (slice_get keys at ≡ Some (key_of place c)) × (a ≤ c) × (c ≤ d)
  from_here d low_d has up =
      let k = has.0 in
      let inside : k < length keys = has.1 in
      let v = get_or keys at 0 in
      let first : key_of place a ≤ v = point.1 at 0 (omega arith) (omega (arith, up, inside)) in
      let later : v ≤ get_or keys k 0 = ascending at k 0 up inside in
      let is : get_or keys k 0 ≡ key_of place d = get_or_from_slice_get keys k (key_of place d) 0 (slice_get-get_or keys k (key_of place d) inside ∙ ap Some has.2) in
      let value : v ≡ key_of place (v - 1048576 * place) = omega (arith, first) in
      (v - 1048576 * place, named_at at (key_of place (v - 1048576 * place)) (omega (arith, up, inside)) value, omega (arith, first), omega (arith, later, is, first))

  -- One that is below has behind it, or is, the last one that is.
  up_to_here : (d : ℕ) → d < 1048576 → (has : Contains keys (key_of place d)) → has.0 < at → at ≤ length keys
      → (c : ℕ) × (slice_get keys (at - 1) ≡ Some (key_of place c)) × (d ≤ c) × (c < a)
  up_to_here d low_d has down bound =
      let k = has.0 in
      let inside : k < length keys = has.1 in
      let v = get_or keys (at - 1) 0 in
      let last : v < key_of place a = point.0 (at - 1) 0 (omega arith) (omega (arith, down)) in
      let later : get_or keys k 0 ≤ v = ascending k (at - 1) 0 (omega (arith, down)) (omega (arith, down, bound)) in
      let is : get_or keys k 0 ≡ key_of place d = get_or_from_slice_get keys k (key_of place d) 0 (slice_get-get_or keys k (key_of place d) inside ∙ ap Some has.2) in
      let value : v ≡ key_of place (v - 1048576 * place) = omega (arith, later, is) in
      (v - 1048576 * place, named_at (at - 1) (key_of place (v - 1048576 * place)) (omega (arith, down, bound)) value, omega (arith, later, is), omega (arith, later, is, last))

  -- an index has one key
  one_key : (j c d : ℕ) → slice_get keys j ≡ Some (key_of place c) → slice_get keys j ≡ Some (key_of place d) → c ≡ d
  one_key j c d is too = let same : key_of place c ≡ key_of place d = same_Some (key_of place c) (key_of place d) (sym is ∙ too) in omega (arith, same)

  there_at : (j c : ℕ) → slice_get keys j ≡ Some (key_of place c) → Contains keys (key_of place c)
  there_at j c is = (j, slice_get_within keys j (key_of place c) is, get_or_from_slice_get keys j (key_of place c) (key_of place c) is)

  pub nearest_of : at ≤ length keys → (before behind which : Option ℕ) → IsLbnBefore keys at place before → IsLbnAt keys at place behind → IsCloserOf a before behind which
      → IsNearestOf keys place a which
  nearest_of bound None None which none missing is = subst (IsNearestOf keys place a) (sym is) (λ c low_c has. elim (cases_lt has.0 at) [
    | inl down ↦ let of = up_to_here c low_c has down bound in none (omega (arith, down)) of.0 (omega (arith, of.3, low)) of.1
    | inr up ↦ let of = from_here c low_c has up in missing of.0 (omega (arith, of.3, low_c)) of.1
  ])
  nearest_of bound None (Some f) which none at_f is = subst (IsNearestOf keys place a) (sym is) (record {
    low = at_f.0;
    there = there_at at f at_f.1;
    nearest = λ d low_d has. elim (cases_lt has.0 at) [
      | inl down ↦ let of = up_to_here d low_d has down bound in absurd (none (omega (arith, down)) of.0 (omega (arith, of.3, low)) of.1)
      | inr up ↦ let of = from_here d low_d has up in let same = one_key at of.0 f of.1 at_f.1 in nearer_up a f d (omega (arith, of.2, same)) (omega (arith, of.3, same))
    ];
  })
  nearest_of bound (Some b) None which at_b missing is = subst (IsNearestOf keys place a) (sym is) (record {
    low = at_b.1.0;
    there = there_at (at - 1) b at_b.1.1;
    nearest = λ d low_d has. elim (cases_lt has.0 at) [
      | inl down ↦ let of = up_to_here d low_d has down bound in let same = one_key (at - 1) of.0 b of.1 at_b.1.1 in nearer_down a b d (omega (arith, of.2, same)) (omega (arith, of.3, same))
      | inr up ↦ let of = from_here d low_d has up in absurd (missing of.0 (omega (arith, of.3, low_d)) of.1)
    ];
  })
  nearest_of bound (Some b) (Some f) which at_b at_f (inl is) = subst (IsNearestOf keys place a) (sym is.0) (record {
    low = at_b.1.0;
    there = there_at (at - 1) b at_b.1.1;
    nearest = λ d low_d has. elim (cases_lt has.0 at) [
      | inl down ↦ let of = up_to_here d low_d has down bound in let same = one_key (at - 1) of.0 b of.1 at_b.1.1 in nearer_down a b d (omega (arith, of.2, same)) (omega (arith, of.3, same))
      | inr up ↦
          let of = from_here d low_d has up in
          let same = one_key at of.0 f of.1 at_f.1 in
          let last = is_last b at_b in
          nearer_across a b f d last (omega (arith, of.2, same)) (omega (arith, of.3, same)) is.1
    ];
  }) where
    is_last : (b : ℕ) → IsLbnBefore keys at place (Some b) → b < a
    is_last b at_b =
        let value : get_or keys (at - 1) 0 ≡ key_of place b = get_or_from_slice_get keys (at - 1) (key_of place b) 0 at_b.1.1 in
        let below : get_or keys (at - 1) 0 < key_of place a = point.0 (at - 1) 0 (omega arith) (omega (arith, at_b.0)) in
        omega (arith, value, below)
  nearest_of bound (Some b) (Some f) which at_b at_f (inr is) = subst (IsNearestOf keys place a) (sym is.0) (record {
    low = at_f.0;
    there = there_at at f at_f.1;
    nearest = λ d low_d has. elim (cases_lt has.0 at) [
      | inl down ↦
          let of = up_to_here d low_d has down bound in
          let same = one_key (at - 1) of.0 b of.1 at_b.1.1 in
          inl (omega (arith, of.2, of.3, same, is.1))
      | inr up ↦ let of = from_here d low_d has up in let same = one_key at of.0 f of.1 at_f.1 in nearer_up a f d (omega (arith, of.2, same)) (omega (arith, of.3, same))
    ];
  })
