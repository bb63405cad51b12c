-- The used entries of a directory, as a list and by their positions.
use Rattle.std.proofs.Common.{◌≡◌, ◌≢◌, ℕ, zero, suc, ◌+◌, ◌/◌, ◌<◌, ◌≤◌, Bool, true, false, cond, List, ◌∷◌, map, filter, get_or, Some, refl, sym, ap, ◌∙◌, subst, arith, inl, inr}
use Rattle.std.specs.List.{range_with_len, slice_get, All}
use Rattle.std.proofs.lemmas.Bool.{cases_eq}
use Rattle.std.proofs.lemmas.Option.{slice_get-get_or, slice_get_within, get_or_from_slice_get, same_Some}
use Rattle.ods_directory.specs.Entry.{Entry, IsGoodEntry, is_used, entry_at, used_entries}
use Rattle.ods_directory.specs.Names.{AreDistinct, IsDirectory}

-- the entry is in the list
pub record IsAmong (es : List Entry) (e : Entry) : Type 0 where
  pub at : ℕ
  pub there : slice_get es at ≡ Some e

-- a used entry at one of n positions from a on
pub record IsUsedAt (entry : ℕ → Entry) (a n : ℕ) (e : Entry) : Type 0 where
  pub at : ℕ
  pub from : a ≤ at
  pub below : at < a + n
  pub used : is_used (entry at) ≡ true
  pub same : entry at ≡ e

-- the used entries at n positions from a on
abbrev pub used_from : (ℕ → Entry) → ℕ → ℕ → List Entry
used_from entry a n = filter is_used (map entry (range_with_len a n))

among_kept : (b : Bool) (x e : Entry) (es : List Entry) → IsAmong es e → IsAmong (cond b (x ∷ es) es) e
among_kept true x e es h = record { at = suc h.at; there = h.there }
among_kept false x e es h = h

-- a used entry is among them
pub among_used : (entry : ℕ → Entry) (a n k : ℕ) → a ≤ k → k < a + n → is_used (entry k) ≡ true → IsAmong (used_from entry a n) (entry k)
among_used entry a zero k from below used = absurd (omega arith)
among_used entry a (suc n) k from below used = elim (cases_eq a k) [
  | inl e ↦ here (is_used (entry a)) (ap (λ j. is_used (entry j)) e ∙ used) (ap entry e)
  | inr apart ↦ among_kept (is_used (entry a)) (entry a) (entry k) (used_from entry (a + 1) n) (among_used entry (a + 1) n k (omega arith) (omega arith) used)
]
  where
    here : (b : Bool) → b ≡ true → entry a ≡ entry k → IsAmong (cond b (entry a ∷ used_from entry (a + 1) n) (used_from entry (a + 1) n)) (entry k)
    here true e same = record { at = 0; there = ap Some same }
    here false e same = absurd (cc)

one_before : (entry : ℕ → Entry) (a n : ℕ) (e : Entry) → IsUsedAt entry (a + 1) n e → IsUsedAt entry a (suc n) e
one_before entry a n e h = record { at = h.at; from = omega (arith, h.from); below = omega (arith, h.below); used = h.used; same = h.same }

-- what is among them is used
pub used_among : (entry : ℕ → Entry) (a n : ℕ) (e : Entry) (i : ℕ) → slice_get (used_from entry a n) i ≡ Some e → IsUsedAt entry a n e
used_among entry a zero e i there = absurd (cc)
used_among entry a (suc n) e i there = by (is_used (entry a)) refl i there (used_among entry (a + 1) n e)
  where
    by : (b : Bool) → is_used (entry a) ≡ b → (j : ℕ) → slice_get (cond b (entry a ∷ used_from entry (a + 1) n) (used_from entry (a + 1) n)) j ≡ Some e
        → ((j : ℕ) → slice_get (used_from entry (a + 1) n) j ≡ Some e → IsUsedAt entry (a + 1) n e) → IsUsedAt entry a (suc n) e
    by true u zero h rest = record { at = a; from = omega arith; below = omega arith; used = u; same = same_Some _ _ h }
    by true u (suc j) h rest = one_before entry a n e (rest j h)
    by false u j h rest = one_before entry a n e (rest j h)

-- no two used entries among n positions from a on have one key
abbrev pub AreApart : (ℕ → Entry) → ℕ → ℕ → Type 0
AreApart entry a n = (i j : ℕ) → a ≤ i → i < j → j < a + n → is_used (entry i) ≡ true → is_used (entry j) ≡ true → (entry i).key ≢ (entry j).key

distinct_rest : (x : Entry) (es : List Entry) → AreDistinct (x ∷ es) → AreDistinct es
distinct_rest x es h i j below e f there here = h (suc i) (suc j) (omega arith) e f there here

-- distinct in the list, distinct by positions
pub apart_from_distinct : (entry : ℕ → Entry) (a n : ℕ) → AreDistinct (used_from entry a n) → AreApart entry a n
apart_from_distinct entry a zero h i j from below within used_i used_j = absurd (omega arith)
apart_from_distinct entry a (suc n) h i j from below within used_i used_j = elim (cases_eq a i) [
  | inl e ↦ first (is_used (entry a)) (ap (λ k. is_used (entry k)) e ∙ used_i) h (among_used entry (a + 1) n j (omega arith) (omega arith) used_j) (ap entry e)
  | inr apart ↦ later (is_used (entry a)) (omega arith) h (apart_from_distinct entry (a + 1) n)
]
  where
    first : (b : Bool) → b ≡ true → AreDistinct (cond b (entry a ∷ used_from entry (a + 1) n) (used_from entry (a + 1) n)) → IsAmong (used_from entry (a + 1) n) (entry j) → entry a ≡ entry i → (entry i).key ≢ (entry j).key
    first true e d there same = λ g. d 0 (suc there.at) (omega arith) (entry a) (entry j) refl there.there (ap (λ x. x.key) same ∙ g)
    first false e d there same = absurd (cc)

    later : (b : Bool) → a + 1 ≤ i → AreDistinct (cond b (entry a ∷ used_from entry (a + 1) n) (used_from entry (a + 1) n)) → (AreDistinct (used_from entry (a + 1) n) → AreApart entry (a + 1) n) → (entry i).key ≢ (entry j).key
    later true start d ih = ih (distinct_rest _ _ d) i j start below (omega arith) used_i used_j
    later false start d ih = ih d i j start below (omega arith) used_i used_j

-- distinct by positions, distinct in the list
pub distinct_from_apart : (entry : ℕ → Entry) (a n : ℕ) → AreApart entry a n → AreDistinct (used_from entry a n)
distinct_from_apart entry a zero h i j = λ below e f there here. absurd (cc)
distinct_from_apart entry a (suc n) h i j =
    by (is_used (entry a)) refl (distinct_from_apart entry (a + 1) n (λ i j from below within used_i used_j. h i j (omega arith) below (omega arith) used_i used_j)) i j
  where
    by : (b : Bool) → is_used (entry a) ≡ b → AreDistinct (used_from entry (a + 1) n) → AreDistinct (cond b (entry a ∷ used_from entry (a + 1) n) (used_from entry (a + 1) n))
    by false u d i j below e f there here = d i j below e f there here
    by true u d zero zero below e f there here = absurd (omega arith)
    by true u d (suc i) zero below e f there here = absurd (omega arith)
    by true u d (suc i) (suc j) below e f there here = d i j (omega arith) e f there here
    by true u d zero (suc j) below e f there here =
        let g = used_among entry (a + 1) n f j here in
        let apart = h a g.at (omega arith) (omega (arith, g.from)) (omega (arith, g.below)) u g.used in
        λ same. apart (ap (λ x. x.key) (same_Some _ _ there) ∙ same ∙ ap (λ x. x.key) (sym g.same))

-- a directory, by the positions of its entries
pub record IsDirectoryBy (entry : ℕ → Entry) (m : ℕ) : Type 0 where
  pub good : (k : ℕ) → k < m → is_used (entry k) ≡ true → IsGoodEntry (entry k)
  pub apart : AreApart entry 0 m

pub used_entries-is : (blocks : List (List ℕ)) (mark : ℕ) → used_entries blocks mark ≡ used_from (entry_at blocks) 0 (mark / 16)
unfolding used_entries
used_entries-is blocks mark = refl

all_among : (P : Entry → Type 0) (es : List Entry) (e : Entry) → All P es → IsAmong es e → P e
all_among P es e h there = subst P (get_or_from_slice_get es there.at e e there.there) (h there.at e (slice_get_within es there.at e there.there))

-- what each of the list is, position by position
pub all_by_positions : (P : Entry → Type 0) (blocks : List (List ℕ)) (mark : ℕ) → All P (used_entries blocks mark) → (k : ℕ) → k < mark / 16 → is_used (entry_at blocks k) ≡ true → P (entry_at blocks k)
all_by_positions P blocks mark all k below used =
    all_among P (used_from (entry_at blocks) 0 (mark / 16)) (entry_at blocks k) (subst (All P) (used_entries-is blocks mark) all)
    (among_used (entry_at blocks) 0 (mark / 16) k (omega arith) (omega arith) used)

pub by_positions : (blocks : List (List ℕ)) (mark : ℕ) → IsDirectory blocks mark → IsDirectoryBy (entry_at blocks) (mark / 16)
by_positions blocks mark h = record {
  good = all_by_positions IsGoodEntry blocks mark h.good;
  apart = apart_from_distinct (entry_at blocks) 0 (mark / 16) (subst AreDistinct (used_entries-is blocks mark) h.distinct);
}

-- good position by position, good in the list
pub good_from_positions : (blocks : List (List ℕ)) (mark : ℕ) → ((k : ℕ) → k < mark / 16 → is_used (entry_at blocks k) ≡ true → IsGoodEntry (entry_at blocks k)) → All IsGoodEntry (used_entries blocks mark)
good_from_positions blocks mark good =
    let list = used_from (entry_at blocks) 0 (mark / 16) in
    let all : All IsGoodEntry list = λ k d below.
    let g = used_among (entry_at blocks) 0 (mark / 16) (get_or list k d) k (slice_get-get_or list k d below) in
    subst IsGoodEntry g.same (good g.at (omega (arith, g.below)) g.used) in
    subst (All IsGoodEntry) (sym (used_entries-is blocks mark)) all

pub from_positions : (blocks : List (List ℕ)) (mark : ℕ) → IsDirectoryBy (entry_at blocks) (mark / 16) → IsDirectory blocks mark
from_positions blocks mark h = record {
  good = good_from_positions blocks mark h.good;
  distinct = subst AreDistinct (sym (used_entries-is blocks mark)) (distinct_from_apart (entry_at blocks) 0 (mark / 16) h.apart);
}
