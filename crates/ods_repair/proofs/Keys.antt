-- A key that is put among keys with numbers gets its number, and the others keep theirs.
use Rattle.std.proofs.Common.{◌≡◌, ◌⊎◌, ◌∙◌, sym, ap, inl, inr, ℕ, Bool, true, false, cond, List, Some}
use Rattle.std.specs.Ordering.{nat_cmp, is_eq}
use Rattle.std.specs.declared.cmp.Ordering.{Ordering}
use Rattle.std.specs.declared.cmp.Ordering.TheVariants.{Less, Equal, Greater}
use Rattle.std.specs.Cmp.Lexicographic.{slice_cmp}
use Rattle.std.specs.BTreeMap as tree
use Rattle.std.specs.BTreeMap.{BTreeMap}
use Rattle.std.proofs.lemmas.Cmp.{eq_by_cmp_equiv, nat_list_cmp_total}
use Rattle.std.proofs.lemmas.Map.Lookups.{exact_bytes}
use Rattle.ods_repair.specs.Noted.{Sets, number_in}

is_equal : (r : Ordering) → is_eq r ≡ true → r ≡ Equal
is_equal Less e = absurd (cc)
is_equal Equal e = e_refl
  where
    e_refl : Equal ≡ Equal
    e_refl = λ i. Equal
is_equal Greater e = absurd (cc)

pub key_put : (old new : BTreeMap (List ℕ) ℕ) (key : List ℕ) (v : ℕ) → tree.Updates (slice_cmp nat_cmp) old new key (Some v) → Sets (number_in old.entries) key v (number_in new.entries)
key_put old new key v updates = record { here = here; others = others }
  where
    at : (q : List ℕ) → tree.get (slice_cmp nat_cmp) new q ≡ cond (is_eq (slice_cmp nat_cmp key q)) (Some v) (tree.get (slice_cmp nat_cmp) old q)
    at q = updates.0 q

    here : number_in new.entries key ≡ Some v
    here = at key ∙ ap (λ b. cond b (Some v) (number_in old.entries key)) ((eq_by_cmp_equiv nat_list_cmp_total).refl key)

    others : (q : List ℕ) → (number_in new.entries q ≡ number_in old.entries q) ⊎ (q ≡ key)
    others q = by (is_eq (slice_cmp nat_cmp key q)) (λ i. is_eq (slice_cmp nat_cmp key q))
      where
        by : (r : Bool) → is_eq (slice_cmp nat_cmp key q) ≡ r → (number_in new.entries q ≡ number_in old.entries q) ⊎ (q ≡ key)
        by true e = inr (sym (exact_bytes key q (is_equal (slice_cmp nat_cmp key q) e)))
        by false e = inl (at q ∙ ap (λ b. cond b (Some v) (number_in old.entries q)) e)
