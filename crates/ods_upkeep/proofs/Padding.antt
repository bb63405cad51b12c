-- Records that follow others: where the first of them goes.
use Rattle.std.proofs.Common.{◌≡◌, ◌≢◌, ℕ, ◌+◌, ◌-◌, ◌*◌, ◌/◌, ◌%◌, ◌<◌, ◌≤◌, List, [], ◌∷◌, ◌++◌, length, map, take, drop, get_or, refl, sym, ap, ◌∙◌, subst, arith, inl, inr, append_assoc, Option, Some, None, All}
use Rattle.std.specs.Prelude.{◌⊎◌, min, replicate, slice_range}
use Rattle.std.specs.List.{flat_map, AllByRecursion}
use Rattle.std.specs.Option.{option_to_list}
use Rattle.std.proofs.lemmas.Bool.{cases_lt}
use Rattle.std.proofs.lemmas.List.{append-nil, length-append, length-replicate, take_at, drop_at, get_or-append_right, get_or_append_left, length-drop, take-append-le, drop-append-le}
use Rattle.std.proofs.Math.Seq.{get_or-append_seam}
use Rattle.std.proofs.lemmas.List.Elements.{recursion_from_All}
use Rattle.ods_records.specs.declared.kind.RecordKind.TheVariants.{Variable}
use Rattle.ods_records.specs.declared.faults.RecordFault.TheVariants.{CutLength}
use Rattle.ods_records.specs.Records.{word_at, IsRecord, IsUnused, Leads, Spells, Stands}
use Rattle.ods_records.specs.Written.{written}
use Rattle.ods_upkeep.specs.Appended.{IsPadded}
use Rattle.ods_records.proofs.Standing.{stands_within, leads_none, fault_spells}

-- where the next record goes behind what stands at a place, if there is room
abbrev place_behind : List ℕ → ℕ → Option (List ℕ) → ℕ
place_behind bytes at (Some r) = at + 2 + word_at bytes at + word_at bytes at % 2
place_behind bytes at None = 512 * (at / 512 + 1)

next_is : (bytes : List ℕ) (at : ℕ) (x : Option (List ℕ)) (next : ℕ) → Stands Variable bytes at x next → next ≡ min (place_behind bytes at x) (length bytes)
next_is bytes at (Some r) next here = here.behind
next_is bytes at None next here = here.behind

-- a word that lies within some bytes is there where others follow
same_word : (old t : List ℕ) (at : ℕ) → at + 2 ≤ length old → word_at (old ++ t) at ≡ word_at old at
same_word old t at within =
    let low : get_or (old ++ t) at 0 ≡ get_or old at 0 = get_or_append_left old t 0 at (omega (arith, within)) in
    let high : get_or (old ++ t) (at + 1) 0 ≡ get_or old (at + 1) 0 = get_or_append_left old t 0 (at + 1) (omega (arith, within)) in
    rw (low, high) refl

same_range : (old t : List ℕ) (a b : ℕ) → a ≤ b → b ≤ length old → slice_range (old ++ t) a b ≡ slice_range old a b
same_range old t a b order within =
    ap (take (b - a)) (drop-append-le a old t (omega (arith, order, within)))
    ∙ take-append-le (b - a) (drop a old) t (omega (arith, order, within, length-drop a old))

-- what stands at a place stands there where other bytes follow
stands_longer : (old t : List ℕ) (at : ℕ) (x : Option (List ℕ)) (next : ℕ) → Stands Variable old at x next → Stands Variable (old ++ t) at x (min (place_behind old at x) (length (old ++ t)))
stands_longer old t at (Some r) next here =
    let word : word_at (old ++ t) at ≡ word_at old at = same_word old t at (omega (arith, here.within)) in
    record {
      numbered = omega arith;
      short = omega (arith, word, here.short);
      within = omega (arith, word, here.within, length-append old t);
      says = here.says ∙ sym (same_range old t (at + 2 + 0) (at + 2 + word_at old at) (omega arith) here.within) ∙ ap (λ (w : ℕ). slice_range (old ++ t) (at + 2 + 0) (at + 2 + w)) (sym word);
      behind = ap (λ (w : ℕ). min (at + 2 + w + w % 2) (length (old ++ t))) (sym word);
    }
stands_longer old t at None next here = record {
  mark = same_word old t at here.within ∙ here.mark;
  within = omega (arith, here.within, length-append old t);
  behind = refl;
}

-- What stands up to the end of some bytes stands there too where others follow. Behind the last of it comes the place `to`, at the end or behind it.
pub record IsCarried (old : List ℕ) (at : ℕ) (xs : List (Option (List ℕ))) : Type 0 where
  pub to : ℕ
  pub behind : length old ≤ to
  pub even : to % 2 ≡ 0
  pub near : (to ≤ length old + 1) ⊎ (to ≡ 512 * (length old / 512 + 1))
  pub leads : (t : List ℕ) → Leads Variable (old ++ t) at xs (min to (length (old ++ t)))

behind_even : (bytes : List ℕ) (at : ℕ) (x : Option (List ℕ)) → at % 2 ≡ 0 → place_behind bytes at x % 2 ≡ 0
behind_even bytes at (Some r) even = omega (arith, even)
behind_even bytes at None even = omega arith

behind_near : (old : List ℕ) (at : ℕ) (x : Option (List ℕ)) (next : ℕ) → Stands Variable old at x next → length old ≤ next → (place_behind old at x ≤ length old + 1) ⊎ (place_behind old at x ≡ 512 * (length old / 512 + 1))
behind_near old at (Some r) next here end = inl (omega (arith, here.within))
behind_near old at None next here end = elim (cases_lt (length old) (512 * (at / 512 + 1))) [
  | inl less ↦ inr (omega (arith, here.within, less))
  | inr more ↦ inl (omega (arith, more))
]

pub carried : (old : List ℕ) (at : ℕ) (xs : List (Option (List ℕ))) → at % 2 ≡ 0 → Leads Variable old at xs (length old) → IsCarried old at xs
carried old at [] even whole = record {
  to = length old;
  behind = omega arith;
  even = omega (arith, even, whole);
  near = inl (omega arith);
  leads = λ t. omega (arith, whole, length-append old t);
}
carried old at (x ∷ xs) even whole = elim (cases_lt whole.0 (length old)) [
  | inl less ↦
      let is : whole.0 ≡ place_behind old at x = omega (arith, less, next_is old at x whole.0 whole.1) in
      inside is (carried old whole.0 xs (subst (λ (n : ℕ). n % 2 ≡ 0) (sym is) (behind_even old at x even)) whole.2)
  | inr end ↦ last (omega (arith, end, (stands_within Variable old at x whole.0 whole.1).1))
]
  where
    inside : whole.0 ≡ place_behind old at x → IsCarried old whole.0 xs → IsCarried old at (x ∷ xs)
    inside is later =
        let within = (stands_within Variable old at x whole.0 whole.1).1 in
        record {
          to = later.to;
          behind = later.behind;
          even = later.even;
          near = later.near;
          leads = λ t. (
            whole.0,
            subst (λ (n : ℕ). Stands Variable (old ++ t) at x n) (omega (arith, is, within, length-append old t)) (stands_longer old t at x whole.0 whole.1),
            later.leads t,
          );
        }

    last : whole.0 ≡ length old → IsCarried old at (x ∷ xs)
    last is =
        let none : xs ≡ [] = leads_none Variable old xs (subst (λ (n : ℕ). Leads Variable old n xs (length old)) is whole.2) in
        record {
          to = place_behind old at x;
          behind = omega (arith, is, next_is old at x whole.0 whole.1);
          even = behind_even old at x even;
          near = behind_near old at x whole.0 whole.1 (omega (arith, is));
          leads = λ t. (
            min (place_behind old at x) (length (old ++ t)),
            stands_longer old t at x whole.0 whole.1,
            subst (λ (l : List (Option (List ℕ))). Leads Variable (old ++ t) (min (place_behind old at x) (length (old ++ t))) l (min (place_behind old at x) (length (old ++ t)))) (sym none) refl,
          );
        }

-- a record that is written behind some bytes stands there
record_stands : (front r behind : List ℕ) → length r ≤ 32767 → IsRecord Variable (front ++ (written r ++ behind)) (length front) r (length (front ++ written r))
record_stands front r behind short =
    let low : ℕ = length r % 256 in
    let high : ℕ = length r / 256 in
    let pad : List ℕ = replicate (length r % 2) 0 in
    let bytes : List ℕ = front ++ (written r ++ behind) in
    let first : get_or bytes (length front) 0 ≡ low = get_or-append_seam {A = ℕ} front low (high ∷ ((r ++ pad) ++ behind)) 0 in
    let second : get_or bytes (length front + 1) 0 ≡ high = get_or-append_right front (written r ++ behind) (length front) (length front + 1) 0 refl (omega arith) ∙ ap (λ (k : ℕ). get_or (written r ++ behind) k 0) one_behind in
    let word : word_at bytes (length front) ≡ length r = rw (first, second) (omega arith) in
    let size : length (front ++ written r) ≡ length front + 2 + length r + length r % 2 = omega (arith, length-append front (written r), length-append r pad, length-replicate {A = ℕ} (length r % 2) 0) in
    let cut : bytes ≡ (front ++ low ∷ high ∷ []) ++ (r ++ (pad ++ behind)) = ap (λ (l : List ℕ). front ++ low ∷ high ∷ l) (append_assoc r pad behind) ∙ sym (append_assoc front (low ∷ high ∷ []) (r ++ (pad ++ behind))) in
    let dropped : drop (length front + 2 + 0) bytes ≡ r ++ (pad ++ behind) = ap (drop (length front + 2 + 0)) cut ∙ drop_at (front ++ low ∷ high ∷ []) (r ++ (pad ++ behind)) (length front + 2 + 0) (omega (arith, length-append front (low ∷ high ∷ []))) in
    let taken : take (length front + 2 + word_at bytes (length front) - (length front + 2 + 0)) (r ++ (pad ++ behind)) ≡ r = take_at r (pad ++ behind) _ (omega (arith, word)) in
    record {
      numbered = omega arith;
      short = omega (arith, word, short);
      within = omega (arith, word, size, length-append (front ++ written r) behind, ap length (append_assoc front (written r) behind));
      says = sym (ap (take (length front + 2 + word_at bytes (length front) - (length front + 2 + 0))) dropped ∙ taken);
      behind = omega (arith, word, size, length-append (front ++ written r) behind, ap length (append_assoc front (written r) behind));
    }
  where
    one_behind : length front + 1 - length front ≡ 1
    one_behind = omega arith

-- written records stand behind one another
leads_written : (front : List ℕ) (records : List (List ℕ)) → AllByRecursion (λ r. length r ≤ 32767) records → Leads Variable (front ++ flat_map written records) (length front) (map (λ r. Some r) records) (length (front ++ flat_map written records))
leads_written front [] short = ap length (sym (append-nil front))
leads_written front (r ∷ records) short =
    let bytes = front ++ (written r ++ flat_map written records) in
    let regrouped : (front ++ written r) ++ flat_map written records ≡ bytes = append_assoc front (written r) (flat_map written records) in (
      length (front ++ written r),
      record_stands front r (flat_map written records) short.0,
      subst (λ (b : List ℕ). Leads Variable b (length (front ++ written r)) (map (λ x. Some x) records) (length b)) regrouped (leads_written (front ++ written r) records short.1),
    )

each_said : (records : List (List ℕ)) → records ≡ flat_map option_to_list (map (λ r. Some r) records)
each_said [] = refl
each_said (r ∷ records) = ap (λ (l : List (List ℕ)). r ∷ l) (each_said records)

-- what stands up to a place, and what stands from there on
then_leads : (bytes : List ℕ) (xs ys : List (Option (List ℕ))) (a mid to : ℕ) → Leads Variable bytes a xs mid → Leads Variable bytes mid ys to → Leads Variable bytes a (xs ++ ys) to
then_leads bytes [] ys a mid to same rest = subst (λ (n : ℕ). Leads Variable bytes n ys to) (sym same) rest
then_leads bytes (x ∷ xs) ys a mid to before rest = (before.0, before.1, then_leads bytes xs ys before.0 mid to before.2 rest)

both_each : (xs ys : List (Option (List ℕ))) → flat_map option_to_list (xs ++ ys) ≡ flat_map option_to_list xs ++ flat_map option_to_list ys
both_each [] ys = refl
both_each (x ∷ xs) ys = ap (λ (l : List (List ℕ)). option_to_list x ++ l) (both_each xs ys) ∙ sym (append_assoc (option_to_list x) (flat_map option_to_list xs) (flat_map option_to_list ys))

-- records that are written at the place behind what stands are read there
pub spells_more : (old : List ℕ) (records : List (List ℕ)) (spelled : Spells Variable old records) (c : IsCarried old 0 spelled.standing) (pad : ℕ) → c.to ≡ length old + pad
    → (more : List (List ℕ)) → All (λ r. length r ≤ 32767) more → Spells Variable (old ++ (replicate pad 0 ++ flat_map written more)) (records ++ more)
spells_more old records spelled c pad at more short =
    let zeros : List ℕ = replicate pad 0 in
    let bytes : List ℕ = old ++ (zeros ++ flat_map written more) in
    let regrouped : (old ++ zeros) ++ flat_map written more ≡ bytes = append_assoc old zeros (flat_map written more) in
    let size : length (old ++ zeros) ≡ c.to = omega (arith, at, length-append old zeros, length-replicate {A = ℕ} pad 0) in
    let room : min c.to (length bytes) ≡ c.to = omega (arith, size, length-append (old ++ zeros) (flat_map written more), ap length regrouped) in
    let before : Leads Variable bytes 0 spelled.standing c.to = subst (λ (n : ℕ). Leads Variable bytes 0 spelled.standing n) room (c.leads (zeros ++ flat_map written more)) in
    let later : Leads Variable ((old ++ zeros) ++ flat_map written more) (length (old ++ zeros)) (map (λ r. Some r) more) (length ((old ++ zeros) ++ flat_map written more)) = leads_written (old ++ zeros) more (recursion_from_All (λ r. length r ≤ 32767) more short) in
    let rest : Leads Variable bytes c.to (map (λ r. Some r) more) (length bytes) =
    subst (λ (n : ℕ). Leads Variable bytes n (map (λ r. Some r) more) (length bytes)) size
    (subst (λ (b : List ℕ). Leads Variable b (length (old ++ zeros)) (map (λ r. Some r) more) (length b)) regrouped later) in
    record {
      standing = spelled.standing ++ map (λ r. Some r) more;
      whole = then_leads bytes spelled.standing (map (λ r. Some r) more) 0 c.to (length bytes) before rest;
      each = (λ i. spelled.each i ++ each_said more i) ∙ sym (both_each spelled.standing (map (λ r. Some r) more));
    }

-- Where a zero more, behind an even number of bytes, is read as nothing, the rest of the block is not used.
pub unused_to : (old : List ℕ) (xs : List (Option (List ℕ))) (c : IsCarried old 0 xs) (records : List (List ℕ)) → Spells Variable (old ++ replicate (length old % 2 + 1) 0) records → c.to ≡ length old + (512 - length old % 512)
unused_to old xs c records spelled =
    elim c.near [
      | inl near ↦ absurd (no_end (omega (arith, near, c.behind, c.even)))
      | inr far ↦ omega (arith, far)
    ]
  where
    size : length (old ++ replicate (length old % 2 + 1) 0) ≡ length old + (length old % 2 + 1)
    size = omega (arith, length-append old (replicate (length old % 2 + 1) 0), length-replicate {A = ℕ} (length old % 2 + 1) 0)

    no_end : c.to ≡ length old + length old % 2 → ⊥
    no_end at =
        let bytes : List ℕ = old ++ replicate (length old % 2 + 1) 0 in
        let before : Leads Variable bytes 0 xs c.to = subst (λ (n : ℕ). Leads Variable bytes 0 xs n) (omega (arith, at, size)) (c.leads (replicate (length old % 2 + 1) 0)) in
        fault_spells Variable bytes c.to (CutLength c.to) xs records before (refl, omega (arith, at, size)) spelled

-- where it is not, the next record goes there
pub used_to : (old : List ℕ) (xs : List (Option (List ℕ))) (c : IsCarried old 0 xs) → ((records : List (List ℕ)) → Spells Variable (old ++ replicate (length old % 2 + 1) 0) records → ⊥) → c.to ≡ length old + length old % 2
used_to old xs c unread =
    elim (cases_lt (length old + length old % 2) c.to) [
      | inl far ↦ absurd (all_read far)
      | inr near ↦ omega (arith, near, c.behind, c.even)
    ]
  where
    size : length (old ++ replicate (length old % 2 + 1) 0) ≡ length old + (length old % 2 + 1)
    size = omega (arith, length-append old (replicate (length old % 2 + 1) 0), length-replicate {A = ℕ} (length old % 2 + 1) 0)

    all_read : length old + length old % 2 < c.to → ⊥
    all_read far =
        let bytes : List ℕ = old ++ replicate (length old % 2 + 1) 0 in
        let whole : Leads Variable bytes 0 xs (length bytes) = subst (λ (n : ℕ). Leads Variable bytes 0 xs n) (omega (arith, far, size)) (c.leads (replicate (length old % 2 + 1) 0)) in
        unread (flat_map option_to_list xs) (record { standing = xs; whole = whole; each = refl })

-- some records
abbrev SpellsSome : List ℕ → Type 0
SpellsSome bytes = (records : List (List ℕ)) × Spells Variable bytes records

-- the rest of the block is passed over
pub pad_to_block : (old longer : List ℕ) → SpellsSome old → longer ≡ old ++ replicate (length old % 2 + 1) 0 → SpellsSome longer → IsPadded old (512 - length old % 512)
pad_to_block old longer one is other =
    let c = carried old 0 one.1.standing refl one.1.whole in
    let at : c.to ≡ length old + (512 - length old % 512) = unused_to old one.1.standing c other.0 (subst (λ (b : List ℕ). Spells Variable b other.0) is other.1) in
    (one.0, one.1, spells_more old one.0 one.1 c (512 - length old % 512) at)

-- the last record gets its pad byte, where it lacks it
pub pad_to_word : (old longer : List ℕ) → SpellsSome old → longer ≡ old ++ replicate (length old % 2 + 1) 0 → ((records : List (List ℕ)) → Spells Variable longer records → ⊥) → IsPadded old (length old % 2)
pad_to_word old longer one is none =
    let c = carried old 0 one.1.standing refl one.1.whole in
    let at : c.to ≡ length old + length old % 2 = used_to old one.1.standing c (λ records spelled. none records (subst (λ (b : List ℕ). Spells Variable b records) (sym is) spelled)) in
    (one.0, one.1, spells_more old one.0 one.1 c (length old % 2) at)
