-- Bytes have one fault at most, and one or none where they spell records.
use Rattle.std.proofs.Common.{◌≡◌, ℕ, zero, suc, ◌+◌, ◌<◌, ◌≤◌, ◌⊎◌, List, [], ◌∷◌, ◌++◌, length, refl, sym, ap, ◌∙◌, subst, arith, Option, Some, None, inl, inr}
use Rattle.std.specs.List.{flat_map}
use Rattle.std.specs.Option.{option_to_list}
use Rattle.std.proofs.lemmas.Bool.{cases_lt, cases_eq}
use Rattle.ods_records.specs.declared.kind.RecordKind.{RecordKind}
use Rattle.ods_records.specs.declared.faults.RecordFault.{RecordFault}
use Rattle.ods_records.specs.declared.faults.RecordFault.TheVariants.{CutLength, PastEnd, TooLong, NoNumber, NoMemory}
use Rattle.ods_records.specs.Records.{word_at, number_size, Stands, Leads, Spells}
use Rattle.ods_records.specs.Faults.{IsFaultAt, IsFirstFault}
use Rattle.ods_records.proofs.Standing.{leads_more, stands_within, stands_once, number_short, fault_stands}

-- one fault is at a place
fault_once : (kind : RecordKind) (bytes : List ℕ) (at : ℕ) (f g : RecordFault) → IsFaultAt kind bytes at f → IsFaultAt kind bytes at g → f ≡ g
fault_once kind bytes at (CutLength one) (CutLength other) p q = ap (λ (n : ℕ). CutLength n) (p.0 ∙ sym q.0)
fault_once kind bytes at (CutLength one) (PastEnd other) p q = absurd (omega (arith, p.1, q.1.0, q.1.1, q.1.2))
fault_once kind bytes at (CutLength one) (TooLong other) p q = absurd (omega (arith, p.1, q.1.0, q.1.1))
fault_once kind bytes at (CutLength one) (NoNumber other) p q = absurd (omega (arith, p.1, q.1.0, q.1.1, number_short kind))
fault_once kind bytes at (CutLength one) NoMemory p q = absurd q
fault_once kind bytes at (PastEnd one) (CutLength other) p q = absurd (omega (arith, p.1.0, p.1.1, p.1.2, q.1))
fault_once kind bytes at (PastEnd one) (PastEnd other) p q = ap (λ (n : ℕ). PastEnd n) (p.0 ∙ sym q.0)
fault_once kind bytes at (PastEnd one) (TooLong other) p q = absurd (omega (arith, p.1.0, p.1.1, p.1.2, q.1.0, q.1.1))
fault_once kind bytes at (PastEnd one) (NoNumber other) p q = absurd (omega (arith, p.1.0, p.1.1, p.1.2, q.1.0, q.1.1, number_short kind))
fault_once kind bytes at (PastEnd one) NoMemory p q = absurd q
fault_once kind bytes at (TooLong one) (CutLength other) p q = absurd (omega (arith, p.1.0, p.1.1, q.1))
fault_once kind bytes at (TooLong one) (PastEnd other) p q = absurd (omega (arith, p.1.0, p.1.1, q.1.0, q.1.1, q.1.2))
fault_once kind bytes at (TooLong one) (TooLong other) p q = ap (λ (n : ℕ). TooLong n) (p.0 ∙ sym q.0)
fault_once kind bytes at (TooLong one) (NoNumber other) p q = absurd (omega (arith, p.1.0, p.1.1, q.1.0, q.1.1, number_short kind))
fault_once kind bytes at (TooLong one) NoMemory p q = absurd q
fault_once kind bytes at (NoNumber one) (CutLength other) p q = absurd (omega (arith, p.1.0, p.1.1, q.1, number_short kind))
fault_once kind bytes at (NoNumber one) (PastEnd other) p q = absurd (omega (arith, p.1.0, p.1.1, q.1.0, q.1.1, q.1.2, number_short kind))
fault_once kind bytes at (NoNumber one) (TooLong other) p q = absurd (omega (arith, p.1.0, p.1.1, q.1.0, q.1.1, number_short kind))
fault_once kind bytes at (NoNumber one) (NoNumber other) p q = ap (λ (n : ℕ). NoNumber n) (p.0 ∙ sym q.0)
fault_once kind bytes at (NoNumber one) NoMemory p q = absurd q
fault_once kind bytes at NoMemory g p q = absurd p

-- two faults behind what stands are at one place
same_place : (kind : RecordKind) (bytes : List ℕ) (xs ys : List (Option (List ℕ))) (a at bt : ℕ) (f g : RecordFault) → Leads kind bytes a xs at → IsFaultAt kind bytes at f → Leads kind bytes a ys bt → IsFaultAt kind bytes bt g → at ≡ bt
same_place kind bytes [] [] a at bt f g p wrong q other = sym p ∙ q
same_place kind bytes [] (y ∷ ys) a at bt f g p wrong q other = absurd (fault_stands kind bytes a f y q.0 (subst (λ (n : ℕ). IsFaultAt kind bytes n f) (sym p) wrong) q.1)
same_place kind bytes (x ∷ xs) [] a at bt f g p wrong q other = absurd (fault_stands kind bytes a g x p.0 (subst (λ (n : ℕ). IsFaultAt kind bytes n g) (sym q) other) p.1)
same_place kind bytes (x ∷ xs) (y ∷ ys) a at bt f g p wrong q other =
    let same = stands_once kind bytes a y x q.0 p.0 q.1 p.1 in
    same_place kind bytes xs ys p.0 at bt f g p.2 wrong (subst (λ (n : ℕ). Leads kind bytes n ys bt) same.1 q.2) other

-- bytes have one fault at most
pub one_fault_first : (kind : RecordKind) (bytes : List ℕ) (f g : RecordFault) → IsFirstFault kind bytes f → IsFirstFault kind bytes g → f ≡ g
one_fault_first kind bytes f g p q =
    let same : p.at ≡ q.at = same_place kind bytes p.standing q.standing 0 p.at q.at f g p.before p.there q.before q.there in
    fault_once kind bytes q.at f g (subst (λ (n : ℕ). IsFaultAt kind bytes n f) same p.there) q.there

abbrev pub Found : RecordKind → List ℕ → ℕ → Type 0
Found kind bytes at = ((x : Option (List ℕ)) × (next : ℕ) × Stands kind bytes at x next) ⊎ ((fault : RecordFault) × IsFaultAt kind bytes at fault)

-- before the end something stands, or a fault is
found_at : (kind : RecordKind) (bytes : List ℕ) (at : ℕ) → at < length bytes → Found kind bytes at
found_at kind bytes at inside = elim (cases_lt (at + 1) (length bytes)) [
  | inr cut ↦ inr (CutLength at, (refl, omega (arith, inside, cut)))
  | inl two ↦ elim (cases_eq (word_at bytes at) 65535) [
    | inl mark ↦ inl (None, _, record { mark = mark; within = omega (arith, two); behind = refl })
    | inr other ↦ elim (cases_lt 32767 (word_at bytes at)) [
      | inl long ↦ inr (TooLong at, (refl, (omega (arith, two), long, other)))
      | inr short ↦ elim (cases_lt (word_at bytes at) (number_size kind)) [
        | inl small ↦ inr (NoNumber at, (refl, (omega (arith, two), small)))
        | inr numbered ↦ elim (cases_lt (length bytes) (at + 2 + word_at bytes at)) [
          | inl past ↦ inr (PastEnd at, (refl, (omega (arith, two), numbered, short, past)))
          | inr within ↦ inl (Some _, _, record { numbered = numbered; short = short; within = within; says = refl; behind = refl })
        ]
      ]
    ]
  ]
]

abbrev pub Ends : RecordKind → List ℕ → Type 0
Ends kind bytes = ((records : List (List ℕ)) × Spells kind bytes records) ⊎ ((fault : RecordFault) × IsFirstFault kind bytes fault)

-- what stands up to a place goes on to the end, or to a fault
goes_on : (fuel : ℕ) (kind : RecordKind) (bytes : List ℕ) (xs : List (Option (List ℕ))) (at : ℕ) → Leads kind bytes 0 xs at → at ≤ length bytes → length bytes ≤ at + fuel → Ends kind bytes
goes_on zero kind bytes xs at before within left =
    let end : at ≡ length bytes = omega (arith, within, left) in
    inl (flat_map option_to_list xs, record { standing = xs; whole = subst (λ (n : ℕ). Leads kind bytes 0 xs n) end before; each = refl })
goes_on (suc fuel) kind bytes xs at before within left = elim (cases_lt at (length bytes)) [
  | inr past ↦ goes_on fuel kind bytes xs at before within (omega (arith, past))
  | inl inside ↦ elim (found_at kind bytes at inside) [
    | inl found ↦
        let on = stands_within kind bytes at found.0 found.1 found.2 in
        goes_on fuel kind bytes (xs ++ found.0 ∷ []) found.1 (leads_more kind bytes xs found.0 0 at found.1 before found.2) on.1 (omega (arith, left, on.0))
    | inr found ↦ inr (found.0, record { at = at; standing = xs; before = before; there = found.1 })
  ]
]

-- bytes spell records, or have a fault
pub records_or_first : (kind : RecordKind) (bytes : List ℕ) → Ends kind bytes
records_or_first kind bytes = goes_on (length bytes) kind bytes [] 0 refl (omega arith) (omega arith)
