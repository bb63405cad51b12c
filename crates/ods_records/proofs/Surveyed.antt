-- What each step of the survey of records keeps true.
use Rattle.std.proofs.Common.{◌≡◌, ℕ, ◌≤◌, max, Bool, true, false, List, [], ◌∷◌, ◌++◌, length, map, refl, sym, ap, ◌∙◌, subst, arith, Option, Some, None}
use Rattle.std.specs.Prelude.{◌&&◌}
use Rattle.std.specs.List.{flat_map, list_all, fold}
use Rattle.std.specs.Option.{option_to_list}
use Rattle.std.proofs.lemmas.List.{append-nil}
use Rattle.std.proofs.lemmas.Grind.{flat_map-append}
use Rattle.std.proofs.lemmas.List.Folds.{list_all-append}
use Rattle.ods_records.specs.declared.kind.RecordKind.{RecordKind}
use Rattle.ods_records.specs.declared.survey.Survey.{Survey}
use Rattle.ods_records.specs.Lines.{longest_of}
use Rattle.ods_records.specs.Records.{Stands, Leads, Spells}
use Rattle.ods_records.specs.Survey.{is_line, is_printable, survey_of}
use Rattle.ods_records.proofs.Standing.{leads_more, stands_within}
use Rattle.ods_records.proofs.ReadSoFar.{spelled_once}
use Rattle.ods_records.proofs.WrittenSoFar.{longest_from}

-- the survey so far is that of what stands up to this place
pub record HasSurveyed (kind : RecordKind) (bytes : List ℕ) (at : ℕ) (survey : Survey) : Type 0 where
  pub standing : List (Option (List ℕ))
  pub before : Leads kind bytes 0 standing at
  pub so_far : survey ≡ survey_of (flat_map option_to_list standing)
  pub within : at ≤ length bytes

and_true : (a : Bool) → (a && true) ≡ a
and_true true = refl
and_true false = refl

all_more : (p : List ℕ → Bool) (rs : List (List ℕ)) (r : List ℕ) → list_all p (rs ++ r ∷ []) ≡ (list_all p rs && p r)
all_more p rs r = list_all-append p rs (r ∷ []) ∙ ap (λ (b : Bool). list_all p rs && b) (and_true (p r))

same_survey : (a b : Survey) → a.longest ≡ b.longest → a.lines ≡ b.lines → a.printable ≡ b.printable → a ≡ b
same_survey a b longest lines printable = λ i. record { longest = longest i; lines = lines i; printable = printable i }

-- one record more
pub surveyed_record : (kind : RecordKind) (bytes : List ℕ) (at : ℕ) (survey more : Survey) (r : List ℕ) (next : ℕ) → HasSurveyed kind bytes at survey → Stands kind bytes at (Some r) next
    → more.longest ≡ max survey.longest (length r) → more.lines ≡ (survey.lines && is_line r) → more.printable ≡ (survey.printable && is_printable r) → HasSurveyed kind bytes next more
surveyed_record kind bytes at survey more r next so here longest lines printable =
    let records = flat_map option_to_list so.standing in
    let one : flat_map option_to_list (so.standing ++ Some r ∷ []) ≡ records ++ r ∷ [] = flat_map-append option_to_list so.standing (Some r ∷ []) in
    record {
      standing = so.standing ++ Some r ∷ [];
      before = leads_more kind bytes so.standing (Some r) 0 at next so.before here;
      so_far = same_survey more (survey_of (records ++ r ∷ []))
          (longest ∙ ap (λ (s : Survey). max s.longest (length r)) so.so_far ∙ sym (longest_from 0 records r))
          (lines ∙ ap (λ (s : Survey). s.lines && is_line r) so.so_far ∙ sym (all_more is_line records r))
          (printable ∙ ap (λ (s : Survey). s.printable && is_printable r) so.so_far ∙ sym (all_more is_printable records r))
          ∙ ap survey_of (sym one);
      within = (stands_within kind bytes at (Some r) next here).1;
    }

-- the rest of a block adds nothing
pub surveyed_unused : (kind : RecordKind) (bytes : List ℕ) (at : ℕ) (survey : Survey) (next : ℕ) → HasSurveyed kind bytes at survey → Stands kind bytes at None next → HasSurveyed kind bytes next survey
surveyed_unused kind bytes at survey next so here = record {
  standing = so.standing ++ None ∷ [];
  before = leads_more kind bytes so.standing None 0 at next so.before here;
  so_far = so.so_far ∙ ap survey_of (sym (flat_map-append option_to_list so.standing (None ∷ []) ∙ append-nil (flat_map option_to_list so.standing)));
  within = (stands_within kind bytes at None next here).1;
}

-- at the end all is surveyed
pub surveyed_all : (kind : RecordKind) (bytes : List ℕ) (at : ℕ) (survey : Survey) → HasSurveyed kind bytes at survey → length bytes ≤ at → (records : List (List ℕ)) × Spells kind bytes records × (survey ≡ survey_of records)
surveyed_all kind bytes at survey so past =
    let end : at ≡ length bytes = omega (arith, so.within) in
    (flat_map option_to_list so.standing, record { standing = so.standing; whole = subst (λ (n : ℕ). Leads kind bytes 0 so.standing n) end so.before; each = refl }, so.so_far)

-- and it is that of whatever the bytes spell
pub surveyed_only : (kind : RecordKind) (bytes : List ℕ) (at : ℕ) (survey : Survey) → HasSurveyed kind bytes at survey → length bytes ≤ at → (records : List (List ℕ)) → Spells kind bytes records → survey ≡ survey_of records
surveyed_only kind bytes at survey so past records spelled =
    let all = surveyed_all kind bytes at survey so past in
    all.2 ∙ ap survey_of (spelled_once kind bytes all.0 records all.1 spelled)
