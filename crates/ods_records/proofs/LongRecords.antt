-- The first record that is longer than a file says.
use Rattle.std.proofs.Common.{◌≡◌, ℕ, ◌<◌, ◌≤◌, List, [], ◌∷◌, ◌++◌, length, inl, inr, refl, sym, ap, subst, arith, Option, Some, None, ◌∙◌}
use Rattle.std.specs.List.{All, Contains, flat_map}
use Rattle.std.specs.Option.{option_to_list}
use Rattle.std.proofs.lemmas.Grind.{flat_map-append}
use Rattle.std.proofs.lemmas.List.{append-nil}
use Rattle.std.proofs.lemmas.List.Elements.{All-nil, All-push, All-contains, Contains-append_left, Contains-append_right}
use Rattle.ods_records.specs.declared.kind.RecordKind.{RecordKind}
use Rattle.ods_records.specs.declared.faults.RecordFault.{RecordFault}
use Rattle.ods_records.specs.Records.{Stands, Leads, IsRecord}
use Rattle.ods_records.specs.Faults.{IsFaultAt}
use Rattle.ods_records.specs.Long.{IsFirstLong}
use Rattle.ods_records.proofs.Standing.{leads_more, stands_within, stands_once, fault_stands}

abbrev records_of : List (Option (List ℕ)) → List (List ℕ)
records_of xs = flat_map option_to_list xs

-- up to a place things stand, and no record of them has more than `most` bytes
pub record AreShort (kind : RecordKind) (bytes : List ℕ) (most at : ℕ) : Type 0 where
  pub standing : List (Option (List ℕ))
  pub before : Leads kind bytes 0 standing at
  pub short : All (λ r. length r ≤ most) (records_of standing)
  pub within : at ≤ length bytes

module _ (kind : RecordKind) (bytes : List ℕ) (most : ℕ) where
  pub short_none : AreShort kind bytes most 0
  short_none = record { standing = []; before = refl; short = All-nil (λ r. length r ≤ most); within = omega arith }

  module _ (at next : ℕ) (so : AreShort kind bytes most at) where
    pub short_record : (r : List ℕ) → Stands kind bytes at (Some r) next → length r ≤ most → AreShort kind bytes most next
    short_record r here few =
        let on = stands_within kind bytes at (Some r) next here in
        record {
          standing = so.standing ++ Some r ∷ [];
          before = leads_more kind bytes so.standing (Some r) 0 at next so.before here;
          short = subst (All (λ x. length x ≤ most)) (sym (flat_map-append option_to_list so.standing (Some r ∷ [])))
              (All-push (λ x. length x ≤ most) (records_of so.standing) r so.short few);
          within = on.1;
        }

    pub short_unused : Stands kind bytes at None next → AreShort kind bytes most next
    short_unused here =
        let on = stands_within kind bytes at None next here in
        record {
          standing = so.standing ++ None ∷ [];
          before = leads_more kind bytes so.standing None 0 at next so.before here;
          short = subst (All (λ x. length x ≤ most)) (sym (flat_map-append option_to_list so.standing (None ∷ []) ∙ append-nil (records_of so.standing))) so.short;
          within = on.1;
        }

    pub long_found : (r : List ℕ) (size : ℕ) → Stands kind bytes at (Some r) next → size ≡ length r → most < size → IsFirstLong kind bytes most at size
    long_found r size here sized long = record {
      standing = so.standing;
      record_bytes = r;
      next = next;
      before = so.before;
      short = so.short;
      there = here;
      sized = sized;
      long = long;
    }

  -- of two rows of what stands from a place on, one stops where something of the other stands; or they come as far
  meets : (xs ys : List (Option (List ℕ))) (a at p : ℕ) (r : List ℕ) (next : ℕ) → Leads kind bytes a xs at → Leads kind bytes a ys p → IsRecord kind bytes p r next → ((x : Option (List ℕ)) (n : ℕ) → ¬ Stands kind bytes at x n)
      → Contains (records_of xs) r
  meets [] [] a at p r next one other there none = absurd (none (Some r) next (subst (λ n. IsRecord kind bytes n r next) (sym other ∙ one) there))
  meets [] (y ∷ ys) a at p r next one other there none = absurd (none y other.0 (subst (λ n. Stands kind bytes n y other.0) one other.1))
  meets (x ∷ xs) [] a at p r next one other there none =
      let here : Stands kind bytes a (Some r) next = subst (λ n. IsRecord kind bytes n r next) (sym other) there in
      let same = stands_once kind bytes a x (Some r) one.0 next one.1 here in
      subst (λ z. Contains (records_of (z ∷ xs)) r) (sym same.0) (Contains-append_left (r ∷ []) (records_of xs) r (0, omega arith, refl))
  meets (x ∷ xs) (y ∷ ys) a at p r next one other there none =
      let same = stands_once kind bytes a y x other.0 one.0 other.1 one.1 in
      let more = meets xs ys one.0 at p r next one.2 (subst (λ n. Leads kind bytes n ys p) same.1 other.2) there none in
      Contains-append_right (option_to_list x) (records_of xs) r more

  module _ (at : ℕ) (so : AreShort kind bytes most at) where
    -- where nothing stands at the place, no record is longer
    pub none_long : ((x : Option (List ℕ)) (n : ℕ) → ¬ Stands kind bytes at x n) → (p size : ℕ) → ¬ IsFirstLong kind bytes most p size
    none_long none p size is =
        let few = All-contains (λ r. length r ≤ most) (records_of so.standing) is.record_bytes so.short (meets so.standing is.standing 0 at p is.record_bytes is.next so.before is.before is.there none) in
        let sized = is.sized in
        let long = is.long in
        omega (arith, few, sized, long)

    pub none_at_fault : (fault : RecordFault) → IsFaultAt kind bytes at fault → (p size : ℕ) → ¬ IsFirstLong kind bytes most p size
    none_at_fault fault wrong = none_long (λ x n. fault_stands kind bytes at fault x n wrong)

    pub none_at_end : length bytes ≤ at → (p size : ℕ) → ¬ IsFirstLong kind bytes most p size
    none_at_end past = none_long (λ x n here. let on = stands_within kind bytes at x n here in omega (arith, past, on.0, on.1))
