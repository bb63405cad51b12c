-- Records that are written are read back.
use Rattle.std.proofs.Common.{◌≡◌, ℕ, ◌+◌, ◌-◌, ◌/◌, ◌%◌, ◌≤◌, List, [], ◌∷◌, ◌++◌, length, map, take, drop, get_or, All, refl, sym, ap, ◌∙◌, subst, arith, append_assoc, Some}
use Rattle.std.specs.Prelude.{replicate}
use Rattle.std.specs.List.{flat_map, AllByRecursion}
use Rattle.std.specs.Option.{option_to_list}
use Rattle.std.proofs.lemmas.List.{append-nil, length-append, length-replicate, take_at, drop_at, get_or-append_right}
use Rattle.std.proofs.Math.Seq.{get_or-append_seam}
use Rattle.std.proofs.lemmas.List.Elements.{recursion_from_All}
use Rattle.ods_records.specs.declared.kind.RecordKind.TheVariants.{Variable}
use Rattle.ods_records.specs.Records.{word_at, IsRecord, Leads, Spells}
use Rattle.ods_records.specs.Written.{written}

-- a record that is written behind some bytes stands there
record_stands : (front r behind : List ℕ) → length r ≤ 32767 → IsRecord Variable (front ++ (written r ++ behind)) (length front) r (length (front ++ written r))
record_stands front r behind short =
    let low : ℕ = length r % 256 in
    let high : ℕ = length r / 256 in
    let pad : List ℕ = replicate (length r % 2) 0 in
    let bytes : List ℕ = front ++ (written r ++ behind) in
    let first : get_or bytes (length front) 0 ≡ low = get_or-append_seam {A = ℕ} front low (high ∷ ((r ++ pad) ++ behind)) 0 in
    let second : get_or bytes (length front + 1) 0 ≡ high = get_or-append_right front (written r ++ behind) (length front) (length front + 1) 0 refl (omega arith) ∙ ap (λ (k : ℕ). get_or (written r ++ behind) k 0) one_behind in
    let word : word_at bytes (length front) ≡ length r = rw (first, second) (omega arith) in
    let size : length (front ++ written r) ≡ length front + 2 + length r + length r % 2 = omega (arith, length-append front (written r), length-append r pad, length-replicate {A = ℕ} (length r % 2) 0) in
    let cut : bytes ≡ (front ++ low ∷ high ∷ []) ++ (r ++ (pad ++ behind)) = ap (λ (l : List ℕ). front ++ low ∷ high ∷ l) (append_assoc r pad behind) ∙ sym (append_assoc front (low ∷ high ∷ []) (r ++ (pad ++ behind))) in
    let dropped : drop (length front + 2 + 0) bytes ≡ r ++ (pad ++ behind) = ap (drop (length front + 2 + 0)) cut ∙ drop_at (front ++ low ∷ high ∷ []) (r ++ (pad ++ behind)) (length front + 2 + 0) (omega (arith, length-append front (low ∷ high ∷ []))) in
    let taken : take (length front + 2 + word_at bytes (length front) - (length front + 2 + 0)) (r ++ (pad ++ behind)) ≡ r = take_at r (pad ++ behind) _ (omega (arith, word)) in
    record {
      numbered = omega arith;
      short = omega (arith, word, short);
      within = omega (arith, word, size, length-append (front ++ written r) behind, ap length (append_assoc front (written r) behind));
      says = sym (ap (take (length front + 2 + word_at bytes (length front) - (length front + 2 + 0))) dropped ∙ taken);
      behind = omega (arith, word, size, length-append (front ++ written r) behind, ap length (append_assoc front (written r) behind));
    }
  where
    one_behind : length front + 1 - length front ≡ 1
    one_behind = omega arith

-- written records stand behind one another
leads_written : (front : List ℕ) (records : List (List ℕ)) → AllByRecursion (λ r. length r ≤ 32767) records → Leads Variable (front ++ flat_map written records) (length front) (map (λ r. Some r) records) (length (front ++ flat_map written records))
leads_written front [] short = ap length (sym (append-nil front))
leads_written front (r ∷ records) short =
    let bytes = front ++ (written r ++ flat_map written records) in
    let regrouped : (front ++ written r) ++ flat_map written records ≡ bytes = append_assoc front (written r) (flat_map written records) in (
      length (front ++ written r),
      record_stands front r (flat_map written records) short.0,
      subst (λ (b : List ℕ). Leads Variable b (length (front ++ written r)) (map (λ x. Some x) records) (length b)) regrouped (leads_written (front ++ written r) records short.1),
    )

each_said : (records : List (List ℕ)) → records ≡ flat_map option_to_list (map (λ r. Some r) records)
each_said [] = refl
each_said (r ∷ records) = ap (λ (l : List (List ℕ)). r ∷ l) (each_said records)

-- written records are spelled
pub spells_written : (records : List (List ℕ)) → All (λ r. length r ≤ 32767) records → Spells Variable (flat_map written records) records
spells_written records short = record {
  standing = map (λ r. Some r) records;
  whole = leads_written [] records (recursion_from_All (λ r. length r ≤ 32767) records short);
  each = each_said records;
}
