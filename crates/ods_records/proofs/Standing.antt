-- What stands behind one another in a file of records.
use Rattle.std.proofs.Common.{◌≡◌, ℕ, ◌<◌, ◌≤◌, List, [], ◌∷◌, ◌++◌, length, refl, sym, ap, ◌∙◌, subst, arith, Option, Some, None}
use Rattle.ods_records.specs.declared.kind.RecordKind.{RecordKind}
use Rattle.ods_records.specs.declared.kind.RecordKind.TheVariants.{Variable, Sequenced}
use Rattle.ods_records.specs.declared.faults.RecordFault.{RecordFault}
use Rattle.ods_records.specs.declared.faults.RecordFault.TheVariants.{CutLength, PastEnd, TooLong, NoNumber, NoMemory}
use Rattle.ods_records.specs.Records.{number_size, Stands, Leads, Spells}
use Rattle.ods_records.specs.Faults.{IsFaultAt}

-- one more
pub leads_more : (kind : RecordKind) (bytes : List ℕ) (xs : List (Option (List ℕ))) (x : Option (List ℕ)) (a mid next : ℕ) → Leads kind bytes a xs mid → Stands kind bytes mid x next → Leads kind bytes a (xs ++ x ∷ []) next
leads_more kind bytes [] x a mid next before here = (next, subst (λ (n : ℕ). Stands kind bytes n x next) (sym before) here, refl)
leads_more kind bytes (y ∷ ys) x a mid next before here = (before.0, before.1, leads_more kind bytes ys x before.0 mid next before.2 here)

-- what stands at a place goes on, and to the end at most
pub stands_within : (kind : RecordKind) (bytes : List ℕ) (at : ℕ) (x : Option (List ℕ)) (next : ℕ) → Stands kind bytes at x next → (at < next) × (next ≤ length bytes)
stands_within kind bytes at (Some r) next here = (omega (arith, here.behind, here.within), omega (arith, here.behind))
stands_within kind bytes at None next here = (omega (arith, here.behind, here.within), omega (arith, here.behind))

-- one thing stands at a place
pub stands_once : (kind : RecordKind) (bytes : List ℕ) (at : ℕ) (x y : Option (List ℕ)) (m n : ℕ) → Stands kind bytes at x m → Stands kind bytes at y n → (x ≡ y) × (m ≡ n)
stands_once kind bytes at (Some r) (Some s) m n one other = (ap (λ (l : List ℕ). Some l) (one.says ∙ sym other.says), one.behind ∙ sym other.behind)
stands_once kind bytes at (Some r) None m n one other = absurd (omega (arith, one.short, other.mark))
stands_once kind bytes at None (Some s) m n one other = absurd (omega (arith, one.mark, other.short))
stands_once kind bytes at None None m n one other = (refl, one.behind ∙ sym other.behind)

-- what stands up to a place is the front of all
pub leads_rest : (kind : RecordKind) (bytes : List ℕ) (xs ys : List (Option (List ℕ))) (a at : ℕ) → Leads kind bytes a xs at → Leads kind bytes a ys (length bytes) → (rest : List (Option (List ℕ))) × (ys ≡ xs ++ rest) × Leads kind bytes at rest (length bytes)
leads_rest kind bytes [] ys a at before whole = (ys, refl, subst (λ (n : ℕ). Leads kind bytes n ys (length bytes)) before whole)
leads_rest kind bytes (x ∷ xs) [] a at before whole = absurd (omega (arith, whole, (stands_within kind bytes a x before.0 before.1).0, (stands_within kind bytes a x before.0 before.1).1))
leads_rest kind bytes (x ∷ xs) (y ∷ ys) a at before whole =
    let same = stands_once kind bytes a y x whole.0 before.0 whole.1 before.1 in
    let more = leads_rest kind bytes xs ys before.0 at before.2 (subst (λ (n : ℕ). Leads kind bytes n ys (length bytes)) same.1 whole.2) in
    (more.0, ap (λ (l : List (Option (List ℕ))). y ∷ l) more.1 ∙ ap (λ (z : Option (List ℕ)). z ∷ (xs ++ more.0)) same.0, more.2)

-- nothing stands at the end
pub leads_none : (kind : RecordKind) (bytes : List ℕ) (xs : List (Option (List ℕ))) → Leads kind bytes (length bytes) xs (length bytes) → xs ≡ []
leads_none kind bytes [] whole = refl
leads_none kind bytes (x ∷ xs) whole = absurd (omega (arith, (stands_within kind bytes (length bytes) x whole.0 whole.1).0, (stands_within kind bytes (length bytes) x whole.0 whole.1).1))

-- the header of a record has 255 bytes at most
pub number_short : (kind : RecordKind) → number_size kind ≤ 255
number_short Variable = omega arith
number_short (Sequenced size) = omega arith

-- where a fault is, nothing stands
pub fault_stands : (kind : RecordKind) (bytes : List ℕ) (at : ℕ) (fault : RecordFault) (x : Option (List ℕ)) (next : ℕ) → IsFaultAt kind bytes at fault → Stands kind bytes at x next → ⊥
fault_stands kind bytes at (CutLength place) (Some r) next wrong here = omega (arith, wrong.1, here.within)
fault_stands kind bytes at (CutLength place) None next wrong here = omega (arith, wrong.1, here.within)
fault_stands kind bytes at (PastEnd place) (Some r) next wrong here = omega (arith, wrong.1.3, here.within)
fault_stands kind bytes at (PastEnd place) None next wrong here = omega (arith, wrong.1.2, here.mark)
fault_stands kind bytes at (TooLong place) (Some r) next wrong here = omega (arith, wrong.1.1, here.short)
fault_stands kind bytes at (TooLong place) None next wrong here = wrong.1.2 here.mark
fault_stands kind bytes at (NoNumber place) (Some r) next wrong here = omega (arith, wrong.1.1, here.numbered)
fault_stands kind bytes at (NoNumber place) None next wrong here = omega (arith, wrong.1.1, here.mark, number_short kind)
fault_stands kind bytes at NoMemory x next wrong here = wrong

-- where a fault is, the end is not
pub fault_inside : (kind : RecordKind) (bytes : List ℕ) (at : ℕ) (fault : RecordFault) → IsFaultAt kind bytes at fault → at < length bytes
fault_inside kind bytes at (CutLength place) wrong = omega (arith, wrong.1)
fault_inside kind bytes at (PastEnd place) wrong = omega (arith, wrong.1.0)
fault_inside kind bytes at (TooLong place) wrong = omega (arith, wrong.1.0)
fault_inside kind bytes at (NoNumber place) wrong = omega (arith, wrong.1.0)
fault_inside kind bytes at NoMemory wrong = absurd wrong

-- bytes with a fault spell no records
pub fault_spells : (kind : RecordKind) (bytes : List ℕ) (at : ℕ) (fault : RecordFault) (xs : List (Option (List ℕ))) (records : List (List ℕ)) → Leads kind bytes 0 xs at → IsFaultAt kind bytes at fault → Spells kind bytes records → ⊥
fault_spells kind bytes at fault xs records before wrong spelled =
    let rest = leads_rest kind bytes xs spelled.standing 0 at before spelled.whole in
    no_rest rest.0 rest.2
  where
    no_rest : (rest : List (Option (List ℕ))) → Leads kind bytes at rest (length bytes) → ⊥
    no_rest [] whole = omega (arith, whole, fault_inside kind bytes at fault wrong)
    no_rest (x ∷ rest) whole = fault_stands kind bytes at fault x whole.0 wrong whole.1
