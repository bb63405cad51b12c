-- Rows of answers that are made anew in place.
use Rattle.std.proofs.Common.{◌≡◌, ◌≢◌, ◌↔◌, ℕ, ◌+◌, ◌<◌, ◌≤◌, ◌⊎◌, List, length, get_or, Bool, true, false, refl, sym, ap, ◌∙◌, subst, arith, inl, inr, set, length-set}
use Rattle.std.specs.Prelude.{slice_index}
use Rattle.std.proofs.lemmas.Bool.{cases_lt, cases_eq}
use Rattle.std.proofs.lemmas.List.{get_or_past, get_or-set_same, get_or-set_other}
use Rattle.ods_paths.specs.Rows.{Says, OpensRuns, TakesOne}

-- one from this place on says yes
abbrev pub OneFrom : List Bool → ℕ → Type 0
OneFrom old j = (k : ℕ) × (j ≤ k) × Says old k

-- places from here on are made anew: each says yes where one from it on did; and whether one from here on did
pub record IsOpening (old row : List Bool) (place : ℕ) (seen : Bool) : Type 0 where
  pub size : length row ≡ length old
  pub here : place ≤ length row
  pub left : (j : ℕ) → j < place → get_or row j false ≡ get_or old j false
  pub done : (j : ℕ) → place ≤ j → Says row j ↔ OneFrom old j
  pub one : (seen ≡ true) ↔ OneFrom old place

-- a row has no place past its end
none_past : (old : List Bool) (j : ℕ) → length old ≤ j → OneFrom old j → ⊥
none_past old j past p = let e : false ≡ true = sym (get_or_past old p.0 false (omega (arith, p.1))) ∙ p.2 in absurd (cc)

pub opening : (old : List Bool) → IsOpening old old (length old) false
opening old = record {
  size = refl;
  here = omega arith;
  left = λ j h. refl;
  done = λ j h. (λ says. (j, omega arith, says), λ p. absurd (none_past old j h p));
  one = (λ e. absurd (cc), λ p. absurd (none_past old (length old) (omega arith) p));
}

-- one from a place on: at it, or behind it
from_here : (old : List Bool) (place : ℕ) → OneFrom old place ↔ (OneFrom old (place + 1) ⊎ Says old place)
from_here old place = (
  λ p. elim (cases_lt place p.0) [
    | inl h ↦ inl (p.0, omega arith, p.2)
    | inr h ↦ inr (subst (Says old) (let e : p.0 ≡ place = omega (arith, p.1) in e) p.2)
  ],
  λ s. elim s [ inl p ↦ (p.0, omega (arith, p.1), p.2) | inr says ↦ (place, omega arith, says) ],
)

pub opened : (old row : List Bool) (place : ℕ) (seen next : Bool) → place < length old → IsOpening old row (place + 1) seen → ((next ≡ true) ↔ ((seen ≡ true) ⊎ (get_or row place false ≡ true))) → IsOpening old (set row place next) place next
opened old row place seen next small so_far is =
    let same : get_or row place false ≡ get_or old place false = so_far.left place (omega arith) in
    let one : (next ≡ true) ↔ OneFrom old place = (
      λ e. elim (is.0 e) [
        | inl s ↦ (from_here old place).1 (inl (so_far.one.0 s))
        | inr s ↦ (from_here old place).1 (inr (sym same ∙ s))
      ],
      λ p. elim ((from_here old place).0 p) [
        | inl q ↦ is.1 (inl (so_far.one.1 q))
        | inr s ↦ is.1 (inr (same ∙ s))
      ],
    ) in
    record {
      size = length-set row place next ∙ so_far.size;
      here = omega (arith, length-set row place next, so_far.size);
      left = λ j h. get_or-set_other row place j next false (λ e. absurd (omega (arith, e))) ∙ so_far.left j (omega arith);
      done = λ j h. elim (cases_eq j place) [
        | inl e ↦ subst (λ (n : ℕ). Says (set row place next) n ↔ OneFrom old n) (sym e)
            (let here : get_or (set row place next) place false ≡ next = get_or-set_same row place next false (omega (arith, so_far.size)) in
            (λ s. one.0 (sym here ∙ s), λ p. here ∙ one.1 p))
        | inr ne ↦
            let other : get_or (set row place next) j false ≡ get_or row j false = get_or-set_other row place j next false ne in
            let was = so_far.done j (let later : place + 1 ≤ j = omega (arith, ne) in later) in
            (λ s. was.0 (sym other ∙ s), λ p. other ∙ was.1 p)
      ];
      one = one;
    }

pub opens : (old row : List Bool) (seen : Bool) (place : ℕ) → place ≡ 0 → IsOpening old row place seen → OpensRuns old row
opens old row seen place e o = record { size = o.size; each = λ j. o.done j (omega (arith, e)) }

-- a place has the character, and the next one says yes
abbrev pub Leads : ℕ → List ℕ → List Bool → ℕ → Type 0
Leads c text old j = (j < length text) × ((c ≡ 63) ⊎ (c ≡ slice_index text j)) × Says old (j + 1)

-- places before this one are made anew
pub record IsTaking (c : ℕ) (text : List ℕ) (old row : List Bool) (place : ℕ) : Type 0 where
  pub size : length row ≡ length old
  pub done : (j : ℕ) → j < place → Says row j ↔ Leads c text old j
  pub left : (j : ℕ) → place ≤ j → get_or row j false ≡ get_or old j false

pub taking : (c : ℕ) (text : List ℕ) (old : List Bool) → IsTaking c text old old 0
taking c text old = record { size = refl; done = λ j h. absurd (omega arith); left = λ j h. refl }

pub taken : (c : ℕ) (text : List ℕ) (old row : List Bool) (place : ℕ) (next : Bool) → length old ≡ length text + 1 → place < length text → IsTaking c text old row place
    → ((next ≡ true) ↔ (((c ≡ 63) ⊎ (c ≡ slice_index text place)) × (get_or row (place + 1) false ≡ true))) → IsTaking c text old (set row place next) (place + 1)
taken c text old row place next room small so_far is =
    let same : get_or row (place + 1) false ≡ get_or old (place + 1) false = so_far.left (place + 1) (omega arith) in
    record {
      size = length-set row place next ∙ so_far.size;
      done = λ j h. elim (cases_eq j place) [
        | inl e ↦ subst (λ (n : ℕ). Says (set row place next) n ↔ Leads c text old n) (sym e)
            (let here : get_or (set row place next) place false ≡ next = get_or-set_same row place next false (omega (arith, so_far.size)) in
            (λ s. let p = is.0 (sym here ∙ s) in (small, p.0, sym same ∙ p.1), λ p. here ∙ is.1 (p.1, same ∙ p.2)))
        | inr ne ↦
            let other : get_or (set row place next) j false ≡ get_or row j false = get_or-set_other row place j next false ne in
            let was = so_far.done j (let less : j < place = omega (arith, ne) in less) in
            (λ s. was.0 (sym other ∙ s), λ p. other ∙ was.1 p)
      ];
      left = λ j h. get_or-set_other row place j next false (λ e. absurd (omega (arith, e))) ∙ so_far.left j (omega arith);
    }

pub takes : (c : ℕ) (text : List ℕ) (old row : List Bool) (place : ℕ) → length old ≡ length text + 1 → place ≡ length text → IsTaking c text old row place → TakesOne c text old (set row (length text) false)
takes c text old row place room e so_far = record {
  size = length-set row (length text) false ∙ so_far.size;
  each = λ j. elim (cases_eq j (length text)) [
    | inl end ↦ subst (λ (n : ℕ). Says (set row (length text) false) n ↔ Leads c text old n) (sym end)
        (let here : get_or (set row (length text) false) (length text) false ≡ false = get_or-set_same row (length text) false false (omega (arith, room, so_far.size)) in
        (λ s. let clash : false ≡ true = sym here ∙ s in absurd (cc), λ p. absurd (omega (arith, p.0))))
    | inr ne ↦
        let other : get_or (set row (length text) false) j false ≡ get_or row j false = get_or-set_other row (length text) j false false ne in
        elim (cases_lt j (length text)) [
          | inl less ↦ let was = so_far.done j (omega (arith, e)) in (λ s. was.0 (sym other ∙ s), λ p. other ∙ was.1 p)
          | inr more ↦ (
            λ s. let clash : false ≡ true = sym (get_or_past row j false (let past : length row ≤ j = omega (arith, room, so_far.size, ne) in past)) ∙ sym other ∙ s in absurd (cc),
            λ p. absurd (omega (arith, p.0)),
          )
        ]
  ];
}
