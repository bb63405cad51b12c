-- Deleted headers: where none is left, which one the next is, and a list of all deleted files.
use Rattle.std.proofs.Common.{◌≡◌, ◌⊎◌, inl, inr, ℕ, ◌+◌, ◌<◌, ◌≤◌, sym, ap, subst, List, [], ◌∷◌, ◌++◌, length, arith, ◌∙◌}
use Rattle.std.specs.Prelude.{slice_index}
use Rattle.std.specs.List.{Contains}
use Rattle.std.specs.List.Sorted.{IsStrictlyIncreasing}
use Rattle.std.proofs.lemmas.Bool.{cases_lt}
use Rattle.std.proofs.lemmas.List.{get_or_append_left, get_or_push, length_push}
use Rattle.std.proofs.lemmas.List.Elements.{Contains-get_or, Contains-append_left, Contains-push, Contains-push_cases}
use Rattle.ods_header.specs.Header.{next_number_of}
use Rattle.ods_space.specs.Layout.{VolumeLayout, last_number}
use Rattle.ods_remains.specs.Candidates.{IsNamedBy}
use Rattle.ods_remains.specs.Deleted.{former, IsDeleted, IsDeletedFile, LeadsOn, AreDeletedFiles}

module _ (I : List (List ℕ)) (L : VolumeLayout) where
  -- the header that leads on names the number of the next
  pub named : (a c : ℕ) → LeadsOn I L a c → c ≡ next_number_of (former I L a)
  named a c leads = sym leads.there.left.valid.header.numbered ∙ leads.named.number

  module _ (a next : ℕ) (b : List ℕ) (is : b ≡ former I L a) (number : next ≡ next_number_of b) where
    same_number : (c : ℕ) → LeadsOn I L a c → c ≡ next
    same_number c leads = named a c leads ∙ sym (number ∙ ap next_number_of is)

    -- where that number has no header left, nothing leads on
    pub no_header : ¬ IsDeleted I L next → (c : ℕ) → ¬ LeadsOn I L a c
    no_header none c leads = none (subst (IsDeleted I L) (same_number c leads) leads.there)

    module _ (o : List ℕ) (other : o ≡ former I L next) where
      -- and where it has another one
      pub no_name : ¬ IsNamedBy b o → (c : ℕ) → ¬ LeadsOn I L a c
      no_name none c leads =
          let there : former I L c ≡ o = ap (former I L) (same_number c leads) ∙ sym other in
          none (subst (λ x. IsNamedBy x o) (sym is) (subst (IsNamedBy (former I L a)) there leads.named))

      pub leads_there : IsDeleted I L a → IsDeleted I L next → IsNamedBy b o → LeadsOn I L a next
      leads_there here there it = record { here = here; there = there; named = subst (λ x. IsNamedBy x (former I L next)) is (subst (IsNamedBy b) other it) }

  -- these are the deleted files up to n, ascending
  pub record AreUpTo (n : ℕ) (numbers : List ℕ) : Type 0 where
    pub only : (m : ℕ) → Contains numbers m → (m ≤ n) × IsDeletedFile I L m
    pub all : (m : ℕ) → m ≤ n → IsDeletedFile I L m → Contains numbers m
    pub rising : IsStrictlyIncreasing numbers

  pub none_yet : AreUpTo 0 []
  none_yet = record {
    only = λ m has. let none : has.0 < 0 = has.1 in absurd (omega arith);
    all = λ m low is. let six = is.0.low in absurd (omega (arith, low, six));
    rising = λ k below. absurd (omega (arith, below));
  }

  rises : (numbers : List ℕ) (n : ℕ) → IsStrictlyIncreasing numbers → ((m : ℕ) → Contains numbers m → m < n) → IsStrictlyIncreasing (numbers ++ n ∷ [])
  rises numbers n so low k below =
      let size : length (numbers ++ n ∷ []) ≡ length numbers + 1 = length_push numbers n in
      let here : k < length numbers = omega (arith, below, size) in
      let at : slice_index (numbers ++ n ∷ []) k ≡ slice_index numbers k = get_or_append_left numbers (n ∷ []) 0 k here in
      elim (cases_lt (k + 1) (length numbers)) [
        | inl more ↦
            let next : slice_index (numbers ++ n ∷ []) (k + 1) ≡ slice_index numbers (k + 1) = get_or_append_left numbers (n ∷ []) 0 (k + 1) more in
            let up = so k more in
            omega (arith, at, next, up)
        | inr last ↦
            let next : slice_index (numbers ++ n ∷ []) (k + 1) ≡ n = get_or_push numbers n 0 (k + 1) (omega (arith, last, here)) in
            let up = low (slice_index numbers k) (Contains-get_or numbers k 0 here) in
            omega (arith, at, next, up)
      ]

  pub one_more : (n : ℕ) (numbers new : List ℕ) → AreUpTo n numbers
      → ((IsDeletedFile I L (n + 1) × (new ≡ numbers ++ (n + 1) ∷ [])) ⊎ ((¬ IsDeletedFile I L (n + 1)) × (new ≡ numbers))) → AreUpTo (n + 1) new
  one_more n numbers new so (inl put) = subst (AreUpTo (n + 1)) (sym put.1) (record {
    only = λ m has. elim (Contains-push_cases numbers (n + 1) m has) [
      | inl before ↦ let of = so.only m before in (omega (arith, of.0), of.1)
      | inr last ↦ (omega (arith, last), subst (IsDeletedFile I L) last put.0)
    ];
    all = λ m low is. elim (cases_lt n m) [
      | inl last ↦ let same : n + 1 ≡ m = omega (arith, low, last) in subst (Contains (numbers ++ (n + 1) ∷ [])) same (Contains-push numbers (n + 1))
      | inr before ↦ Contains-append_left numbers ((n + 1) ∷ []) m (so.all m before is)
    ];
    rising = rises numbers (n + 1) so.rising (λ m has. let low = (so.only m has).0 in omega (arith, low));
  })
  one_more n numbers new so (inr kept) = subst (AreUpTo (n + 1)) (sym kept.1) (record {
    only = λ m has. let of = so.only m has in (omega (arith, of.0), of.1);
    all = λ m low is. elim (cases_lt n m) [
      | inl last ↦ let same : m ≡ n + 1 = omega (arith, low, last) in absurd (kept.0 (subst (IsDeletedFile I L) same is))
      | inr before ↦ so.all m before is
    ];
    rising = so.rising;
  })

  -- up to the greatest number they are all
  pub all_of_them : (numbers : List ℕ) → AreUpTo (last_number L) numbers → AreDeletedFiles I L numbers
  all_of_them numbers so = record {
    only = λ m has. (so.only m has).1;
    all = λ m is. so.all m is.0.high is;
    rising = so.rising;
  }
