-- What is looked up in a draft, and what an image becomes, with one change more.
use Rattle.std.proofs.Common.{◌≡◌, ◌≢◌, ℕ, zero, suc, ◌+◌, ◌-◌, ◌<◌, ◌≤◌, Bool, true, false, cond, nat_eq, List, [], ◌∷◌, ◌++◌, map, length, set, get_or, take, Option, Some, None, refl, sym, ap, subst, ◌∙◌, arith, inl, inr}
use Rattle.std.specs.Prelude.{◌⊎◌, unwrap_or, is_some}
use Rattle.std.specs.List.{range_with_len}
use Rattle.std.proofs.lemmas.Bool.{cases_lt, cases_eq, eq-eqb, eqb-true, eqb-false}
use Rattle.std.proofs.Math.Seq.{set-append_seam}
use Rattle.std.proofs.lemmas.List.{append-nil, get_or_push, take_more, length-set, get_or_default, get_or-set_same, get_or-set_other, set_past}
use Rattle.std.proofs.lemmas.List.FromFn.{fill_by_all, length-map-range_with_len, get_or-map-range_with_len}
use Rattle.ods_base.specs.Bits.{HasBit}
use Rattle.ods_base.specs.Image.{block_at}
use Rattle.ods_header.specs.declared.header.Run.{Run}
use Rattle.ods_space.specs.Draft.{Changes, ChangesBit, IsNextChange, change_at, seen_at, applied}
use Rattle.ods_space.specs.Changes.{IsOf, changed, changes_after, changes_of, filled}
use Rattle.ods_space.specs.declared.draft.Change.{Change}

-- what newer changes have, or else this
abbrev pub or_older : Option (List ℕ) → Option (List ℕ) → Option (List ℕ)
or_older None older = older
or_older (Some b) older = Some b

pub change_at-append : (e d : Changes) (lbn : ℕ) → change_at (e ++ d) lbn ≡ or_older (change_at e lbn) (change_at d lbn)
change_at-append [] d lbn = refl
change_at-append (c ∷ cs) d lbn = by (nat_eq c.0 lbn) (change_at-append cs d lbn)
  where
    by : (b : Bool) → change_at (cs ++ d) lbn ≡ or_older (change_at cs lbn) (change_at d lbn)
        → cond b (Some c.1) (change_at (cs ++ d) lbn) ≡ or_older (cond b (Some c.1) (change_at cs lbn)) (change_at d lbn)
    by true rest = refl
    by false rest = rest

unwrap_or-or_older : (o p : Option (List ℕ)) (b : List ℕ) → unwrap_or (or_older o p) b ≡ unwrap_or o (unwrap_or p b)
unwrap_or-or_older None p b = refl
unwrap_or-or_older (Some a) p b = refl

pub seen_at-append : (I : List (List ℕ)) (e d : Changes) (lbn : ℕ) → seen_at I (e ++ d) lbn ≡ unwrap_or (change_at e lbn) (seen_at I d lbn)
seen_at-append I e d lbn = ap (λ o. unwrap_or o (block_at I lbn)) (change_at-append e d lbn) ∙ unwrap_or-or_older (change_at e lbn) (change_at d lbn) (block_at I lbn)

pub length-applied : (I : List (List ℕ)) (d : Changes) → length (applied I d) ≡ length I
unfolding applied
length-applied I d = length-map-range_with_len (seen_at I d) 0 (length I)

pub block_at-applied : (I : List (List ℕ)) (d : Changes) (lbn : ℕ) → lbn < length I → block_at (applied I d) lbn ≡ seen_at I d lbn
unfolding applied
block_at-applied I d lbn inside = get_or-map-range_with_len (seen_at I d) 0 (length I) lbn lbn [] inside (omega arith)

-- an image of these blocks is the one with the changes
pub applied_is : (I J : List (List ℕ)) (d : Changes) → length J ≡ length I → ((k : ℕ) → k < length I → block_at J k ≡ seen_at I d k) → J ≡ applied I d
unfolding applied
applied_is I J d size each = fill_by_all (seen_at I d) J (length I) [] size each

pub applied_none : (I : List (List ℕ)) → I ≡ applied I []
applied_none I = applied_is I I [] refl (λ k inside. refl)

pub applied-applied : (I : List (List ℕ)) (e d : Changes) → applied (applied I d) e ≡ applied I (e ++ d)
applied-applied I e d = applied_is I (applied (applied I d) e) (e ++ d)
    (length-applied (applied I d) e ∙ length-applied I d)
    (λ k inside.
    let within : k < length (applied I d) = rw (length-applied I d) inside in
    block_at-applied (applied I d) e k within ∙ ap (λ b. unwrap_or (change_at e k) b) (block_at-applied I d k inside) ∙ sym (seen_at-append I e d k))

-- one block set
pub applied_set : (I : List (List ℕ)) (lbn : ℕ) (b : List ℕ) → set I lbn b ≡ applied I ((lbn, b) ∷ [])
applied_set I lbn b = applied_is I (set I lbn b) ((lbn, b) ∷ []) (length-set I lbn b) (λ k inside. by k inside (nat_eq lbn k) refl)
  where
    by : (k : ℕ) → k < length I → (t : Bool) → nat_eq lbn k ≡ t → get_or (set I lbn b) k [] ≡ unwrap_or (cond t (Some b) None) (get_or I k [])
    by k inside true e = let same : lbn ≡ k = eqb-true lbn k e in ap (λ n. get_or (set I n b) k []) same ∙ get_or-set_same I k b [] inside
    by k inside false e = get_or-set_other I lbn k b [] (λ same. eqb-false lbn k e (sym same))

-- and over older changes
pub applied_over : (I : List (List ℕ)) (d : Changes) (lbn : ℕ) (b : List ℕ) → applied I ((lbn, b) ∷ d) ≡ set (applied I d) lbn b
applied_over I d lbn b = sym (applied-applied I ((lbn, b) ∷ []) d) ∙ sym (applied_set (applied I d) lbn b)

-- the changes by which so many blocks become this one
abbrev pub all_from : List ℕ → ℕ → ℕ → Changes
all_from b a n = map (λ lbn. (lbn, b)) (range_with_len a n)

pub change_at-inside : (b : List ℕ) (a n lbn : ℕ) → a ≤ lbn → lbn < a + n → change_at (all_from b a n) lbn ≡ Some b
change_at-inside b a zero lbn above below = absurd (omega arith)
change_at-inside b a (suc n) lbn above below = by (nat_eq a lbn) refl (λ higher. change_at-inside b (a + 1) n lbn higher (omega arith))
  where
    by : (t : Bool) → nat_eq a lbn ≡ t → (a + 1 ≤ lbn → change_at (all_from b (a + 1) n) lbn ≡ Some b) → cond t (Some b) (change_at (all_from b (a + 1) n) lbn) ≡ Some b
    by true e rest = refl
    by false e rest = let ne = eqb-false a lbn e in rest (omega arith)

-- a block that is none of them is not changed
pub change_at-outside : (b : List ℕ) (a n lbn : ℕ) → ((k : ℕ) → k < n → a + k ≢ lbn) → change_at (all_from b a n) lbn ≡ None
change_at-outside b a zero lbn apart = refl
change_at-outside b a (suc n) lbn apart = by (nat_eq a lbn) refl (change_at-outside b (a + 1) n lbn (λ k small e. apart (suc k) (omega arith) (omega (arith, e))))
  where
    by : (t : Bool) → nat_eq a lbn ≡ t → change_at (all_from b (a + 1) n) lbn ≡ None → cond t (Some b) (change_at (all_from b (a + 1) n) lbn) ≡ None
    by true e rest = let same = eqb-true a lbn e in absurd (apart 0 (omega arith) (omega (arith, same)))
    by false e rest = rest

-- what a run that is filled has for an LBN
module _ (r : Run) (b : List ℕ) (lbn : ℕ) where
  filled_inside : r.lbn ≤ lbn → lbn < r.lbn + r.count → change_at (filled r b []) lbn ≡ Some b
  filled_inside above below = ap (λ d. change_at d lbn) (append-nil (all_from b r.lbn r.count)) ∙ change_at-inside b r.lbn r.count lbn above below

  filled_outside : (lbn < r.lbn) ⊎ (r.lbn + r.count ≤ lbn) → change_at (filled r b []) lbn ≡ None
  filled_outside away =
      ap (λ d. change_at d lbn) (append-nil (all_from b r.lbn r.count))
      ∙ change_at-outside b r.lbn r.count lbn (λ k small e. elim away [ inl low ↦ absurd (omega (arith, e)) | inr high ↦ absurd (omega (arith, e)) ])

-- which blocks one change is of
pub of_inside : (c : Change) (lbn : ℕ) → c.run.lbn ≤ lbn → lbn < c.run.lbn + c.run.count → change_at (changed c []) lbn ≡ Some c.filling.0
of_inside c lbn = filled_inside c.run c.filling.0 lbn

pub of_outside : (c : Change) (lbn : ℕ) → (lbn < c.run.lbn) ⊎ (c.run.lbn + c.run.count ≤ lbn) → change_at (changed c []) lbn ≡ None
of_outside c lbn = filled_outside c.run c.filling.0 lbn

-- an image whose blocks of the run are this one, and the others as they were
pub record IsFilled (I J : List (List ℕ)) (b : List ℕ) (from to : ℕ) : Type 0 where
  pub size : length J ≡ length I
  pub inside : (k : ℕ) → from ≤ k → k < to → k < length I → block_at J k ≡ b
  pub below : (k : ℕ) → k < from → block_at J k ≡ block_at I k
  pub above : (k : ℕ) → to ≤ k → block_at J k ≡ block_at I k

pub filled_none : (I : List (List ℕ)) (b : List ℕ) (from : ℕ) → IsFilled I I b from from
filled_none I b from = record { size = refl; inside = λ k low high within. absurd (omega arith); below = λ k low. refl; above = λ k high. refl }

pub filled_more : (I J : List (List ℕ)) (b : List ℕ) (from to : ℕ) → from ≤ to → to < length J → IsFilled I J b from to → IsFilled I (set J to b) b from (to + 1)
filled_more I J b from to order within done = record {
  size = length-set J to b ∙ done.size;
  inside = λ k low high inside. elim (cases_eq k to) [
    | inl e ↦ ap (λ n. get_or (set J to b) n []) e ∙ get_or-set_same J to b [] within
    | inr n ↦ get_or-set_other J to k b [] n ∙ done.inside k low (omega arith) inside
  ];
  below = λ k low. let n : k ≡ to → ⊥ = λ e. absurd (omega arith) in get_or-set_other J to k b [] n ∙ done.below k low;
  above = λ k high. let n : k ≡ to → ⊥ = λ e. absurd (omega arith) in get_or-set_other J to k b [] n ∙ done.above k (omega arith);
}

-- a run is filled as far as the image has its blocks
pub filled_all : (I J : List (List ℕ)) (b : List ℕ) (r : Run) (to : ℕ) → IsFilled I J b r.lbn to → to ≤ r.lbn + r.count → ((k : ℕ) → to ≤ k → k < r.lbn + r.count → length I ≤ k) → J ≡ applied I (filled r b [])
filled_all I J b r to done few rest = applied_is I J (filled r b []) done.size each
  where
    each : (k : ℕ) → k < length I → block_at J k ≡ seen_at I (filled r b []) k
    each k within = elim (cases_lt k r.lbn) [
      | inl low ↦ done.below k low ∙ sym (ap (λ o. unwrap_or o (block_at I k)) (filled_outside r b k (inl low)))
      | inr high ↦ elim (cases_lt k (r.lbn + r.count)) [
        | inl in_run ↦ elim (cases_lt k to) [
          | inl reached ↦ done.inside k high reached within ∙ sym (ap (λ o. unwrap_or o (block_at I k)) (filled_inside r b k high in_run))
          | inr left ↦ let past = rest k left in_run in absurd (omega arith)
        ]
        | inr behind ↦ done.above k (omega arith) ∙ sym (ap (λ o. unwrap_or o (block_at I k)) (filled_outside r b k (inr behind)))
      ]
    ]

pub changed_is : (c : Change) (d : Changes) → changed c d ≡ changed c [] ++ d
changed_is c d = ap (λ l. l ++ d) (sym (append-nil (all_from c.filling.0 c.run.lbn c.run.count)))

changes_after_push : (d : Changes) (cs : List Change) (c : Change) → changes_after d (cs ++ c ∷ []) ≡ changed c (changes_after d cs)
changes_after_push d [] c = refl
changes_after_push d (b ∷ cs) c = changes_after_push (changed b d) cs c

pub changes_of_push : (cs : List Change) (c : Change) → changes_of (cs ++ c ∷ []) ≡ changed c (changes_of cs)
changes_of_push cs c = changes_after_push [] cs c

-- the image with one change more
pub applied_changed : (I : List (List ℕ)) (c : Change) (d : Changes) → applied (applied I d) (changed c []) ≡ applied I (changed c d)
applied_changed I c d = applied-applied I (changed c []) d ∙ ap (applied I) (sym (changed_is c d))

-- what is looked up with one change more
pub change_at-changed : (c : Change) (d : Changes) (lbn : ℕ) → change_at (changed c d) lbn ≡ or_older (change_at (changed c []) lbn) (change_at d lbn)
change_at-changed c d lbn = ap (λ e. change_at e lbn) (changed_is c d) ∙ change_at-append (changed c []) d lbn

changes_of_more : (cs : List Change) (k : ℕ) (c : Change) → k < length cs → c ≡ get_or cs k c → changes_of (take (k + 1) cs) ≡ changed c (changes_of (take k cs))
changes_of_more cs k c within is = ap changes_of (take_more cs k c within ∙ ap (λ x. take k cs ++ x ∷ []) (sym is)) ∙ changes_of_push (take k cs) c

-- the image with the first k + 1 changes
pub applied_more : (I J : List (List ℕ)) (cs : List Change) (k : ℕ) (c : Change) → k < length cs → c ≡ get_or cs k c → J ≡ applied I (changes_of (take k cs)) →
    applied J (changed c []) ≡ applied I (changes_of (take (k + 1) cs))
applied_more I J cs k c within is before =
    ap (λ x. applied x (changed c [])) before ∙ applied_changed I c (changes_of (take k cs)) ∙ ap (applied I) (sym (changes_of_more cs k c within is))

-- change k is looked at before the older ones
module _ (cs : List Change) (k lbn : ℕ) (c : Change) (some : 0 < k) (within : k ≤ length cs) (is : c ≡ get_or cs (k - 1) c) (rest : change_at (changes_of cs) lbn ≡ change_at (changes_of (take k cs)) lbn) where
  looked : change_at (changes_of cs) lbn ≡ or_older (change_at (changed c []) lbn) (change_at (changes_of (take (k - 1) cs)) lbn)
  looked =
      let place : k ≡ (k - 1) + 1 = omega arith in
      let inside : k - 1 < length cs = omega arith in
      rest ∙ ap (λ n. change_at (changes_of (take n cs)) lbn) place
      ∙ ap (λ d. change_at d lbn) (changes_of_more cs (k - 1) c inside is)
      ∙ change_at-changed c (changes_of (take (k - 1) cs)) lbn

  pub looked_up : (b : List ℕ) → change_at (changed c []) lbn ≡ Some b → change_at (changes_of cs) lbn ≡ Some b
  looked_up b found = looked ∙ ap (λ o. or_older o (change_at (changes_of (take (k - 1) cs)) lbn)) found

  pub passed_over : change_at (changed c []) lbn ≡ None → change_at (changes_of cs) lbn ≡ change_at (changes_of (take (k - 1) cs)) lbn
  passed_over none = looked ∙ ap (λ o. or_older o (change_at (changes_of (take (k - 1) cs)) lbn)) none

-- of two lookups one has something
some_newer : (o p : Option (List ℕ)) → is_some o ≡ true → is_some (or_older o p) ≡ true
some_newer None p e = absurd (cc)
some_newer (Some b) p e = refl

some_older : (o p : Option (List ℕ)) → is_some p ≡ true → is_some (or_older o p) ≡ true
some_older None p e = e
some_older (Some b) p e = refl

-- what is next is known with one change more
pub next_more : (cs : List Change) (k : ℕ) (c : Change) (from to at next : ℕ) → k < length cs → c ≡ get_or cs k c → IsNextChange (changes_of (take k cs)) from to at → IsNextChange (changed c []) from at next
    → IsNextChange (changes_of (take (k + 1) cs)) from to next
next_more cs k c from to at next within is before here =
    let d : Changes = changes_of (take k cs) in
    let low = here.below in
    let high = before.below in
    let now : (x : ℕ) → change_at (changes_of (take (k + 1) cs)) x ≡ or_older (change_at (changed c []) x) (change_at d x) = λ x. ap (λ e. change_at e x) (changes_of_more cs k c within is) ∙ change_at-changed c d x in
    record {
      above = here.above;
      below = omega arith;
      passed = λ x above below. now x ∙ ap (λ o. or_older o (change_at d x)) (here.passed x above below) ∙ before.passed x above (omega arith);
      stops = λ less. ap is_some (now next) ∙ elim (cases_lt next at) [
        | inl earlier ↦ some_newer (change_at (changed c []) next) (change_at d next) (here.stops earlier)
        | inr same ↦ let one : at ≡ next = omega arith in some_older (change_at (changed c []) next) (change_at d next) (ap (λ x. is_some (change_at d x)) (sym one) ∙ before.stops (omega arith))
      ];
    }

-- the changes of a list, and of the list with another change in place of its last one
record EndsIn (d : Changes) (cs : List Change) (k : ℕ) (old new : Change) : Type 0 where
  older : Changes
  was : changes_after d cs ≡ changed old older
  now : changes_after d (set cs k new) ≡ changed new older

ends_in : (d : Changes) (cs : List Change) (k : ℕ) (old new other : Change) → length cs ≡ suc k → get_or cs k other ≡ old → EndsIn d cs k old new
ends_in d [] k old new other size last = absurd (omega (arith, size))
ends_in d (c ∷ []) zero old new other size last = record { older = d; was = ap (λ x. changed x d) last; now = refl }
ends_in d (c ∷ []) (suc k) old new other size last = absurd (omega (arith, size))
ends_in d (c ∷ e ∷ cs) zero old new other size last = absurd (omega (arith, size))
ends_in d (c ∷ e ∷ cs) (suc k) old new other size last =
    let rest = ends_in (changed c d) (e ∷ cs) k old new other (omega (arith, size)) last in
    record { older = rest.older; was = rest.was; now = rest.now }

-- a change of one block
pub changed_one : (c : Change) (lbn : ℕ) (d : Changes) → IsOf lbn c → changed c d ≡ (lbn, c.filling.0) ∷ d
changed_one c lbn d is =
    ap (λ n. map (λ x. (x, c.filling.0)) (range_with_len c.run.lbn n) ++ d) is.1
    ∙ ap (λ a. (a, c.filling.0) ∷ d) is.0

pub pushed_one : (cs : List Change) (c : Change) (lbn : ℕ) → IsOf lbn c → changes_of (cs ++ c ∷ []) ≡ (lbn, c.filling.0) ∷ changes_of cs
pushed_one cs c lbn is = changes_of_push cs c ∙ changed_one c lbn (changes_of cs) is

-- of two changes of one block the newer counts
over_older : (I : List (List ℕ)) (d : Changes) (lbn : ℕ) (old new : List ℕ) (x : ℕ) → seen_at I ((lbn, new) ∷ d) x ≡ seen_at I ((lbn, new) ∷ (lbn, old) ∷ d) x
over_older I d lbn old new x = by (nat_eq lbn x)
  where
    by : (t : Bool) → unwrap_or (cond t (Some new) (change_at d x)) (block_at I x) ≡ unwrap_or (cond t (Some new) (cond t (Some old) (change_at d x))) (block_at I x)
    by true = refl
    by false = refl

-- where the last of n changes, which is read twice, is of one block
module _ (cs : List Change) (n lbn : ℕ) (old again : Change) (some : 0 < n) (size : n ≡ length cs) (read : old ≡ get_or cs (n - 1) old) (reread : again ≡ get_or cs (n - 1) again) (was : IsOf lbn old) where
  one : IsOf lbn again
  one = subst (IsOf lbn) (read ∙ get_or_default cs (n - 1) old again (omega (arith, some, size)) ∙ sym reread) was

  ends : (new : Change) → EndsIn [] cs (n - 1) again new
  ends new = ends_in [] cs (n - 1) again new again (omega (arith, some, size)) (sym reread)

  -- another block in its place is as good as one change more
  pub renewed : (f : List ℕ × Bool) (I : List (List ℕ)) → applied I (changes_of (set cs (n - 1) (record { filling = f; run = again.run }))) ≡ applied I ((lbn, f.0) ∷ changes_of cs)
  unfolding applied
  renewed f I =
      let new : Change = record { filling = f; run = again.run } in
      let e = ends new in
      ap (λ d. map (seen_at I d) (range_with_len 0 (length I))) (e.now ∙ changed_one new lbn e.older one)
      ∙ (λ i. map (λ x. over_older I e.older lbn again.filling.0 f.0 x i) (range_with_len 0 (length I)))
      ∙ ap (λ d. map (seen_at I ((lbn, f.0) ∷ d)) (range_with_len 0 (length I))) (sym (e.was ∙ changed_one again lbn e.older one))

  -- its block is the one that is seen
  seen_last : (I : List (List ℕ)) → seen_at I (changes_of cs) lbn ≡ again.filling.0
  seen_last I =
      let e = ends again in
      ap (λ d. seen_at I d lbn) (e.was ∙ changed_one again lbn e.older one)
      ∙ ap (λ t. unwrap_or (cond t (Some again.filling.0) (change_at e.older lbn)) (block_at I lbn)) (eq-eqb lbn lbn refl)

  -- a bit of it that is put is a bit of the draft
  pub bit_renewed : (f : List ℕ × Bool) (I : List (List ℕ)) (i : ℕ) (value : Bool) → HasBit again.filling.0 i value f.0
      → ChangesBit I (changes_of cs) lbn i value (changes_of (set cs (n - 1) (record { filling = f; run = again.run })))
  bit_renewed f I i value bits = record { block = f.0; bit = subst (λ l. HasBit l i value f.0) (sym (seen_last I)) bits; becomes = renewed f }

-- a bit of the block that is seen is put in one change more, which is made of that block
pub bit_added : (cs items : List Change) (n lbn : ℕ) (c again : Change) (f : List ℕ × Bool) (I : List (List ℕ)) (i : ℕ) (value : Bool) → items ≡ cs ++ c ∷ [] → n ≡ length cs → again ≡ get_or items n again
    → IsOf lbn c → c.filling.0 ≡ seen_at I (changes_of cs) lbn → HasBit again.filling.0 i value f.0
    → ChangesBit I (changes_of cs) lbn i value (changes_of (set items n (record { filling = f; run = again.run })))
bit_added cs items n lbn c again f I i value more last read is seen bits =
    let new : Change = record { filling = f; run = again.run } in
    let same : again ≡ c = read ∙ ap (λ l. get_or l n again) more ∙ get_or_push cs c again n (sym last) in
    let one : IsOf lbn new = (ap (λ x. x.run.lbn) same ∙ is.0, ap (λ x. x.run.count) same ∙ is.1) in
    let list : set items n new ≡ cs ++ new ∷ [] = ap (λ l. set l n new) more ∙ ap (λ k. set (cs ++ c ∷ []) k new) last ∙ set-append_seam cs c [] new in
    record {
      block = f.0;
      bit = subst (λ l. HasBit l i value f.0) (ap (λ x. x.filling.0) same ∙ seen) bits;
      becomes = λ J. ap (applied J) (ap changes_of list ∙ pushed_one cs new lbn one);
    }
