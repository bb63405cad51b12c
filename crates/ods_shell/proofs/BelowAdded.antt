-- Directories that a walk entered, added one after another to those that are found.
use Rattle.std.proofs.Common.{◌≡◌, ◌⊎◌, inl, inr, ℕ, zero, suc, ◌+◌, ◌<◌, ◌≤◌, refl, sym, ap, ◌∙◌, subst, Bool, true, false, List, [], ◌∷◌, ◌++◌, length, map, set, get_or, take, None, arith}
use Rattle.std.specs.Prelude.{MatchBool, nat_eq}
use Rattle.std.specs.List.{Contains, IsDistinct, list_any, slice_get}
use Rattle.std.proofs.lemmas.Bool.{cases_eq, cases_Bool, eqb-true}
use Rattle.std.proofs.lemmas.Cmp.{nat_eq_equiv}
use Rattle.std.proofs.lemmas.List.{map-append, length-map, length-take-le, get_or-take}
use Rattle.std.proofs.lemmas.List.Elements.{Contains-append_left, Contains-append_right, Contains-append_cases, Contains-push, Contains-push_cases}
use Rattle.std.proofs.lemmas.Option.{none-some, slice_get_cases}
use Rattle.std.proofs.lemmas.Map.Keys.{IsDistinct-push, IsDistinct-from_apart, apart_from_distinct}
use Rattle.std.proofs.lemmas.Map.Steps.{length-le_from_distinct_below}
use Rattle.std.proofs.lemmas.Map.Views.{Contains-from_any}
use Rattle.ods_base.specs.Name.{RadName}
use Rattle.ods_walk.specs.declared.tables.Entered.{Entered}
use Rattle.ods_walk.specs.Paths.{path_to, number_at}
use Rattle.ods_walk.specs.Steps.{AreEntered}
use Rattle.ods_walk.proofs.Flagged.{entered_more}
use Rattle.ods_shell.specs.declared.folders.Directory.{Directory}

-- ---- the numbers of directories

pub numbers_push : (ds : List Directory) (d : Directory) → map (λ (x : Directory). x.number) (ds ++ d ∷ []) ≡ map (λ (x : Directory). x.number) ds ++ d.number ∷ []
numbers_push ds d = map-append (λ (x : Directory). x.number) ds (d ∷ [])

-- ---- flags

-- what a flag says of one list it says of another with the same numbers
flag_says : (b : Bool) (P Q : Type 0) → MatchBool b P (¬ P) → (P → Q) → (Q → P) → MatchBool b Q (¬ Q)
flag_says true P Q is there back = there is
flag_says false P Q is there back = λ q. is (back q)

same_entered : (flags : List Bool) (xs ys : List ℕ) → ((n : ℕ) → Contains xs n → Contains ys n) → ((n : ℕ) → Contains ys n → Contains xs n) → AreEntered flags xs → AreEntered flags ys
same_entered flags xs ys there back are = record { size = are.size; each = λ n small. flag_says (get_or flags n false) (Contains xs n) (Contains ys n) (are.each n small) (there n) (back n) }

-- the flag of a directory that is added is set
pub flags_more : (flags : List Bool) (found after : List Directory) (d : Directory) → d.number < 65536 → after ≡ found ++ d ∷ [] → AreEntered flags (map (λ (x : Directory). x.number) found)
    → AreEntered (set flags d.number true) (map (λ (x : Directory). x.number) after)
flags_more flags found after d small is are =
    let old = map (λ (x : Directory). x.number) found in
    let all : map (λ (x : Directory). x.number) after ≡ old ++ d.number ∷ [] = ap (map (λ (x : Directory). x.number)) is ∙ numbers_push found d in
    subst (AreEntered (set flags d.number true)) (sym all) (same_entered (set flags d.number true) (d.number ∷ old) (old ++ d.number ∷ [])
    (λ n has. elim (Contains-append_cases (d.number ∷ []) old n has) [ inl one ↦ Contains-append_right old (d.number ∷ []) n one | inr other ↦ Contains-append_left old (d.number ∷ []) n other ])
    (λ n has. elim (Contains-append_cases old (d.number ∷ []) n has) [ inl other ↦ Contains-append_right (d.number ∷ []) old n other | inr one ↦ Contains-append_left (d.number ∷ []) old n one ])
    (entered_more flags old d.number small are))

flag_clear : (b : Bool) (P : Type 0) → MatchBool b P (¬ P) → b ≡ false → ¬ P
flag_clear b P is clear = subst (λ x. MatchBool x P (¬ P)) clear is

pub not_entered : (flags : List Bool) (xs : List ℕ) (n : ℕ) → n < 65536 → AreEntered flags xs → get_or flags n false ≡ false → ¬ Contains xs n
not_entered flags xs n small are clear = flag_clear (get_or flags n false) (Contains xs n) (are.each n small) clear

-- ---- the table of a walk

pub number_read : (table : List Entered) (k d : ℕ) → k < length table → get_or (map (λ (e : Entered). e.number) table) k d ≡ number_at table k
number_read [] k d within = absurd (omega arith)
number_read (e ∷ table) zero d within = refl
number_read (e ∷ table) (suc k) d within = number_read table k d (omega arith)

-- so many numbers of words, none twice, are at most as many as there are words
pub few_places : (table : List Entered) (count : ℕ) → count ≤ length table → ((k : ℕ) → k < count → number_at table k < 65536) → IsDistinct nat_eq (map (λ (e : Entered). e.number) table) → count ≤ 65536
few_places table count inside small once =
    let all = map (λ (e : Entered). e.number) table in
    let long : length all ≡ length table = length-map table (λ (e : Entered). e.number) in
    let size : length (take count all) ≡ count = length-take-le count all (omega arith) in
    let apart : IsDistinct nat_eq (take count all) = IsDistinct-from_apart nat_eq (take count all) (λ i j d first within.
    let j_small : j < count = omega arith in
    let at_i : get_or (take count all) i d ≡ get_or all i d = get_or-take count all i d (omega arith) in
    let at_j : get_or (take count all) j d ≡ get_or all j d = get_or-take count all j d j_small in
    ap (λ x. nat_eq x (get_or (take count all) j d)) at_i ∙ ap (nat_eq (get_or all i d)) at_j ∙ apart_from_distinct nat_eq all i j d once first (omega arith)) in
    let few : length (take count all) ≤ 65536 = length-le_from_distinct_below (take count all) 65536 apart (λ q there.
    let has : Contains (take count all) q = Contains-from_any eqb-true q (take count all) there in
    let k_small : has.0 < count = (let within : has.0 < length (take count all) = has.1 in omega arith) in
    let is : number_at table has.0 ≡ q = sym (number_read table has.0 q (omega arith)) ∙ sym (get_or-take count all has.0 q k_small) ∙ has.2 in
    subst (λ n. n < 65536) is (small has.0 k_small)) in
    omega arith

-- a place without an element is past the list
pub past_end : {X : Type 0} (xs : List X) (i : ℕ) → slice_get xs i ≡ None → length xs ≤ i
past_end xs i none = elim (slice_get_cases xs i).1 [ inl there ↦ absurd (none-some there.0 (sym none ∙ there.2)) | inr past ↦ past.0 ]

-- ---- directories of the first places

-- those of the places before this one are added, each number once
pub record IsPartly (start : Directory) (table : List Entered) (place : ℕ) (flags : List Bool) (before after : List Directory) : Type 0 where
  pub inside : place ≤ length table
  pub small : (k : ℕ) → k < place → number_at table k < 65536
  pub are : AreEntered flags (map (λ d. d.number) after)
  pub grows : (n : ℕ) → Contains (map (λ d. d.number) before) n → Contains (map (λ d. d.number) after) n
  pub only : (d : Directory) → Contains after d → Contains before d ⊎ ((k : ℕ) × (k < place) × (d.number ≡ number_at table k) × (d.names.items ≡ start.names.items ++ path_to table k))
  pub all : (k : ℕ) → k < place → Contains (map (λ d. d.number) after) (number_at table k)
  pub once : IsDistinct nat_eq (map (λ d. d.number) before) → IsDistinct nat_eq (map (λ d. d.number) after)

-- none yet
pub none_yet : (start : Directory) (table : List Entered) (flags : List Bool) (before : List Directory) → AreEntered flags (map (λ d. d.number) before) → IsPartly start table 0 flags before before
none_yet start table flags before are = record {
  inside = omega arith;
  small = λ k none. absurd (omega arith);
  are = are;
  grows = λ n has. has;
  only = λ d has. inl has;
  all = λ k none. absurd (omega arith);
  once = λ distinct. distinct;
}

-- the next place is a number of the machine
pub room_for_next : (start : Directory) (table : List Entered) (place : ℕ) (flags : List Bool) (before after : List Directory) (n : ℕ) → place < length table → number_at table place ≡ n → n < 65536
    → IsPartly start table place flags before after → IsDistinct nat_eq (map (λ (e : Entered). e.number) table) → place + 1 ≤ 65536
room_for_next start table place flags before after n within is small partly once =
    few_places table (place + 1) (omega arith)
    (λ k low. elim (cases_eq k place) [ inl same ↦ subst (λ m. m < 65536) (sym (ap (number_at table) same ∙ is)) small | inr other ↦ partly.small k (omega arith) ]) once

-- a directory was added, unless one with its number was there
abbrev pub IsOneMore : ℕ → List RadName → List Directory → List Directory → Type 0
IsOneMore n names now after =
    (Contains (map (λ d. d.number) now) n × (after ≡ now))
    ⊎ ((¬ Contains (map (λ d. d.number) now) n) × (d : Directory) × (after ≡ now ++ d ∷ []) × (d.number ≡ n) × (d.names.items ≡ names))

-- what one more leaves: what was there, and its number, each once
record IsNext (n : ℕ) (names : List RadName) (now after : List Directory) : Type 0 where
  stays : (m : ℕ) → Contains (map (λ d. d.number) now) m → Contains (map (λ d. d.number) after) m
  old_or_new : (d : Directory) → Contains after d → Contains now d ⊎ ((d.number ≡ n) × (d.names.items ≡ names))
  has : Contains (map (λ d. d.number) after) n
  distinct : IsDistinct nat_eq (map (λ d. d.number) now) → IsDistinct nat_eq (map (λ d. d.number) after)

next_of : (n : ℕ) (names : List RadName) (now after : List Directory) → IsOneMore n names now after → IsNext n names now after
next_of n names now after (inl there) = record {
  stays = λ m has. subst (λ (a : List Directory). Contains (map (λ d. d.number) a) m) (sym there.1) has;
  old_or_new = λ d has. inl (subst (λ (a : List Directory). Contains a d) there.1 has);
  has = subst (λ (a : List Directory). Contains (map (λ d. d.number) a) n) (sym there.1) there.0;
  distinct = λ once. subst (λ (a : List Directory). IsDistinct nat_eq (map (λ d. d.number) a)) (sym there.1) once;
}
next_of n names now after (inr new) =
    let old = map (λ (x : Directory). x.number) now in
    let all : map (λ (x : Directory). x.number) after ≡ old ++ n ∷ [] = ap (map (λ (x : Directory). x.number)) new.2 ∙ numbers_push now new.1 ∙ ap (λ m. old ++ m ∷ []) new.3 in
    record {
      stays = λ m has. subst (λ a. Contains a m) (sym all) (Contains-append_left old (n ∷ []) m has);
      old_or_new = λ d has. elim (Contains-push_cases now new.1 d (subst (λ (a : List Directory). Contains a d) new.2 has)) [
        | inl there ↦ inl there
        | inr same ↦ inr (ap (λ (x : Directory). x.number) (sym same) ∙ new.3, ap (λ (x : Directory). x.names.items) (sym same) ∙ new.4)
      ];
      has = subst (λ a. Contains a n) (sym all) (Contains-push old n);
      distinct = λ once. subst (IsDistinct nat_eq) (sym all) (IsDistinct-push nat_eq_equiv old n once (absent old n new.0));
    }
  where
    absent : (xs : List ℕ) (m : ℕ) → ¬ Contains xs m → list_any (nat_eq m) xs ≡ false
    absent xs m none = elim (cases_Bool (list_any (nat_eq m) xs)) [ inl there ↦ absurd (none (Contains-from_any eqb-true m xs there)) | inr is ↦ is ]

-- those of one place more
pub one_more : (start : Directory) (table : List Entered) (place : ℕ) (flags more : List Bool) (before now after : List Directory) (n : ℕ) → place < length table → number_at table place ≡ n → n < 65536
    → IsPartly start table place flags before now → AreEntered more (map (λ d. d.number) after) → IsOneMore n (start.names.items ++ path_to table place) now after → IsPartly start table (place + 1) more before after
one_more start table place flags more before now after n within is small partly are added =
    let next = next_of n (start.names.items ++ path_to table place) now after added in
    record {
      inside = omega arith;
      small = λ k low. elim (cases_eq k place) [ inl same ↦ subst (λ m. m < 65536) (sym (ap (number_at table) same ∙ is)) small | inr other ↦ partly.small k (omega arith) ];
      are = are;
      grows = λ m has. next.stays m (partly.grows m has);
      only = λ d has. elim (next.old_or_new d has) [
        | inl there ↦ elim (partly.only d there) [ inl first ↦ inl first | inr entered ↦ inr (entered.0, (let low : entered.0 < place = entered.1 in omega arith), entered.2, entered.3) ]
        | inr new ↦ inr (place, omega arith, new.0 ∙ sym is, new.1)
      ];
      all = λ k low. elim (cases_eq k place) [
        | inl same ↦ subst (Contains (map (λ d. d.number) after)) (sym (ap (number_at table) same ∙ is)) next.has
        | inr other ↦ next.stays (number_at table k) (partly.all k (omega arith))
      ];
      once = λ distinct. next.distinct (partly.once distinct);
    }
