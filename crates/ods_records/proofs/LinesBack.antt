-- Records that are lines are the lines of their text.
use Rattle.std.proofs.Common.{◌≡◌, ◌≢◌, ℕ, ◌+◌, ◌-◌, ◌<◌, ◌≤◌, Bool, true, false, cond, not, List, [], ◌∷◌, ◌++◌, length, take, drop, get_or, All, refl, sym, ap, ◌∙◌, subst, arith, append_assoc, Option, Some, None}
use Rattle.std.specs.Prelude.{slice_index, ◌&&◌, ◌||◌, ◌==◌}
use Rattle.std.specs.List.{flat_map, list_all}
use Rattle.std.specs.Option.{option_to_list}
use Rattle.std.specs.Str.Lines.{lines, strip_carriage_return}
use Rattle.std.proofs.lemmas.Bool.{ne_eqb, eqb-false}
use Rattle.std.proofs.lemmas.List.{length-append, take_at, drop_at}
use Rattle.std.proofs.lemmas.List.Elements.{All-cons, All-nil, All-tail}
use Rattle.std.proofs.lemmas.List.Concat.{flat_map-cons}
use Rattle.std.proofs.lemmas.List.Sums.{AllPass-from_list_all}
use Rattle.std.proofs.Math.ListN.{get_or-append}
use Rattle.std.specs.List.{slice_range}
use Rattle.std.proofs.lemmas.List.{length-take}
use Rattle.std.proofs.Math.Seq.{get_or-append_seam}
use Rattle.ods_records.specs.declared.kind.RecordKind.{RecordKind}
use Rattle.ods_records.specs.Records.{word_at, number_size, Leads, Spells, text_of}
use Rattle.ods_records.specs.Lines.{IsLineEnd}
use Rattle.ods_records.specs.Survey.{is_line, is_printable}
use Rattle.ods_records.specs.Attributes.{is_controlled}
use Rattle.ods_records.specs.Written.{written}
use Rattle.ods_records.specs.Laws.{LinesComeBack}
use Rattle.ods_records.specs.declared.kind.RecordKind.TheVariants.{Variable}
use Rattle.ods_records.proofs.LineEnds.{lines_first}
use Rattle.ods_records.proofs.WrittenStands.{spells_written}

pub both : (a b : Bool) → (a && b) ≡ true → (a ≡ true) × (b ≡ true)
both true true e = (refl, refl)
both true false e = absurd cc
both false b e = absurd cc

not_so : (b : Bool) → not b ≡ true → b ≡ false
not_so true e = absurd cc
not_so false e = refl

strip_same : (l : List ℕ) → (slice_index l (length l - 1) == 13) ≡ false → strip_carriage_return l ≡ l
strip_same l other = ap (λ (b : Bool). cond b (take (length l - 1) l) l) other

no_lf : (r : List ℕ) (k : ℕ) → list_all (λ b. not (b == 10)) r ≡ true → k < length r → slice_index r k ≢ 10
no_lf r k all small = eqb-false _ _ (not_so _ (AllPass-from_list_all (λ b. not (b == 10)) r all k 0 small))

-- the first LF behind a record that has none
line_ends : (r rest : List ℕ) → list_all (λ b. not (b == 10)) r ≡ true → IsLineEnd (r ++ 10 ∷ rest) (length r)
line_ends r rest all = record {
  within = omega (arith, length-append r (10 ∷ rest));
  before = λ k small e. no_lf r k all small (sym (get_or-append r (10 ∷ rest) 0 k small) ∙ e);
  found = λ inside. get_or-append_seam r 10 rest 0;
}

-- records that are lines are the lines of their text
pub lines_back : (records : List (List ℕ)) → list_all is_line records ≡ true → lines (text_of records) ≡ records
lines_back [] all = refl
lines_back (r ∷ records) all =
    let first = both (is_line r) (list_all is_line records) all in
    let parts = both (list_all (λ b. not (b == 10)) r) (not (slice_index r (length r - 1) == 13)) first.0 in
    let text : text_of (r ∷ records) ≡ r ++ 10 ∷ text_of records = flat_map-cons (λ (l : List ℕ). l ++ 10 ∷ []) r records ∙ append_assoc r (10 ∷ []) (text_of records) in
    let cut : drop (length r + 1) (r ++ 10 ∷ text_of records) ≡ text_of records =
    ap (drop (length r + 1)) (sym (append_assoc r (10 ∷ []) (text_of records))) ∙ drop_at (r ++ 10 ∷ []) (text_of records) (length r + 1) (omega (arith, length-append r (10 ∷ []))) in
    ap lines text
    ∙ lines_first (r ++ 10 ∷ text_of records) (length r) (line_ends r (text_of records) parts.0) (omega (arith, length-append r (10 ∷ text_of records)))
    ∙ ap (λ (l : List ℕ). strip_carriage_return l ∷ lines (drop (length r + 1) (r ++ 10 ∷ text_of records))) (take_at r (10 ∷ text_of records) (length r) refl)
    ∙ ap (λ (l : List ℕ). l ∷ lines (drop (length r + 1) (r ++ 10 ∷ text_of records))) (strip_same r (not_so _ parts.1))
    ∙ ap (λ (l : List ℕ). r ∷ lines l) cut
    ∙ ap (λ (l : List (List ℕ)). r ∷ l) (lines_back records first.1)

range_short : (bytes : List ℕ) (a b : ℕ) → length (slice_range bytes a b) ≤ b - a
range_short bytes a b = omega (arith, length-take (b - a) (drop a bytes))

-- what stands are records of at most 32,767 bytes
short_standing : (kind : RecordKind) (bytes : List ℕ) (xs : List (Option (List ℕ))) (a to : ℕ) → Leads kind bytes a xs to → All (λ r. length r ≤ 32767) (flat_map option_to_list xs)
short_standing kind bytes [] a to before = All-nil (λ r. length r ≤ 32767)
short_standing kind bytes (None ∷ xs) a to before = short_standing kind bytes xs before.0 to before.2
short_standing kind bytes (Some r ∷ xs) a to before =
    All-cons (λ l. length l ≤ 32767) r (flat_map option_to_list xs) (omega (arith, ap length before.1.says, range_short bytes (a + 2 + number_size kind) (a + 2 + word_at bytes a), before.1.short)) (short_standing kind bytes xs before.0 to before.2)

pub short_spelled : (kind : RecordKind) (bytes : List ℕ) (records : List (List ℕ)) → Spells kind bytes records → All (λ r. length r ≤ 32767) records
short_spelled kind bytes records s = subst (All (λ r. length r ≤ 32767)) (sym s.each) (short_standing kind bytes s.standing 0 (length bytes) s.whole)

-- records that are got as lines without a word come back
pub chosen_back : LinesComeBack
chosen_back kind attributes bytes records spelled come =
    let same = lines_back records (both (list_all is_line records) (is_controlled attributes || list_all is_printable records) come).0 in
    (same, subst (λ (ls : List (List ℕ)). Spells Variable (flat_map written ls) records) (sym same) (spells_written records (short_spelled kind bytes records spelled)))
