-- Whether a walk has entered a directory, and so whether that lies below the one where the walk starts.
use Rattle.std.proofs.Common.{◌≡◌, ◌≢◌, ◌<◌, ◌≤◌, ◌∙◌, refl, sym, ap, subst, inl, inr, ℕ, zero, suc, Bool, true, false, List, [], ◌∷◌, length, map, get_or, slice_get, Some, None, eqb, arith}
use Rattle.std.specs.Prelude.{◌||◌, MatchBool}
use Rattle.std.specs.List.{Contains, list_any}
use Rattle.std.proofs.lemmas.Bool.{cases_lt, eqb-true}
use Rattle.std.proofs.lemmas.List.{length-map}
use Rattle.std.proofs.lemmas.Map.Steps.{length-le_from_distinct_below}
use Rattle.ods_base.specs.Image.{IsImage}
use Rattle.ods_base.specs.Name.{RadName}
use Rattle.ods_space.specs.Layout.{VolumeLayout}
use Rattle.ods_mount.specs.Faults.{IsDirectoryFile}
use Rattle.ods_mount.proofs.Headers.{number_small}
use Rattle.ods_walk.specs.declared.tables.Entered.{Entered}
use Rattle.ods_walk.specs.Complete.{AreReached, LeadsPast}
use Rattle.ods_walk.specs.Paths.{number_at, path_to}
use Rattle.ods_upkeep.specs.Moved.{HasBelow}

-- the numbers of directories
abbrev pub numbers : List Entered → List ℕ
numbers ds = map (λ (d : Entered). d.number) ds

-- none of the first of these directories has this number
abbrev pub NoneBefore : List Entered → ℕ → ℕ → Type 0
NoneBefore ds place m = (k : ℕ) (e : Entered) → k < place → slice_get ds k ≡ Some e → e.number ≢ m

-- a number among these is that of a directory
at_map : (ds : List Entered) (k m : ℕ) → k < length (numbers ds) → get_or (numbers ds) k m ≡ m → (e : Entered) × (slice_get ds k ≡ Some e) × (e.number ≡ m)
at_map [] k m low is = absurd (omega (arith, low))
at_map (d ∷ ds) zero m low is = (d, refl, is)
at_map (d ∷ ds) (suc k) m low is = at_map ds k m (omega (arith, low)) is

-- where none before a place has the number, and none is there, none has it
pub none_at_all : (ds : List Entered) (place m : ℕ) → slice_get ds place ≡ None → NoneBefore ds place m → ¬ Contains (numbers ds) m
none_at_all ds place m end before has =
    let found = at_map ds has.0 m has.1 has.2 in
    elim (cases_lt has.0 place) [ inl less ↦ before has.0 found.0 less found.1 found.2 | inr more ↦ absurd (past ds place has.0 found.0 end more found.1) ]
  where
    past : (xs : List Entered) (i k : ℕ) (e : Entered) → slice_get xs i ≡ None → i ≤ k → slice_get xs k ≡ Some e → ⊥
    past [] i k e none low at = absurd (cc)
    past (x ∷ xs) zero k e none low at = absurd (cc)
    past (x ∷ xs) (suc i) zero e none low at = absurd (omega (arith, low))
    past (x ∷ xs) (suc i) (suc k) e none low at = past xs i k e none (omega (arith, low)) at

-- nor where all are before the place
pub none_of_all : (ds : List Entered) (place m : ℕ) → length ds ≤ place → NoneBefore ds place m → ¬ Contains (numbers ds) m
none_of_all ds place m all before has =
    let found = at_map ds has.0 m has.1 has.2 in
    before has.0 found.0 (omega (arith, all, has.1, length-map ds (λ (d : Entered). d.number))) found.1 found.2

-- names lead to numbers of 16 bits
small : (I : List (List ℕ)) (L : VolumeLayout) → IsImage I → (names : List RadName) (n m : ℕ) → n < 65536 → LeadsPast I L (4 ∷ []) n names m → m < 65536
small I L image [] n m low same = subst (λ k. k < 65536) same low
small I L image (name ∷ names) n m low leads = small I L image names leads.0.file.number m (number_small I L leads.0.file.number image leads.3.file.0.valid.header) leads.5

-- a number of these stands at a place
placed : (ds : List Entered) (q : ℕ) → list_any (eqb q) (numbers ds) ≡ true → (k : ℕ) × (k < length ds) × (number_at ds k ≡ q)
placed [] q any = absurd (cc)
placed (d ∷ ds) q any = by (λ rest. placed ds q rest) (eqb q d.number) refl any
  where
    by : (list_any (eqb q) (numbers ds) ≡ true → (k : ℕ) × (k < length ds) × (number_at ds k ≡ q)) → (b : Bool) → eqb q d.number ≡ b → (b || list_any (eqb q) (numbers ds)) ≡ true
        → (k : ℕ) × (k < length (d ∷ ds)) × (number_at (d ∷ ds) k ≡ q)
    by later true is some = (0, omega arith, sym (eqb-true q d.number is))
    by later false is some = let rest = later some in (suc rest.0, omega (arith, rest.1), rest.2)

-- so a walk enters few
pub few_entered : (I : List (List ℕ)) (L : VolumeLayout) → IsImage I → (n : ℕ) (ds : List Entered) → n < 65536 → AreReached I L n (4 ∷ []) ds → length ds ≤ 65536
few_entered I L image n ds low reached =
    let most : length (numbers ds) ≤ 65536 = length-le_from_distinct_below (numbers ds) 65536 reached.once (λ q any. below q (placed ds q any)) in
    omega (arith, most, length-map ds (λ (d : Entered). d.number))
  where
    below : (q : ℕ) → (k : ℕ) × (k < length ds) × (number_at ds k ≡ q) → q < 65536
    below q at = subst (λ k. k < 65536) at.2 (small I L image (path_to ds at.0) n (number_at ds at.0) low (reached.only at.0 at.1))

number_there : (ds : List Entered) (k : ℕ) (e : Entered) → slice_get ds k ≡ Some e → (k < length ds) × (number_at ds k ≡ e.number)
number_there [] k e at = absurd (cc)
number_there (d ∷ ds) zero e at = let same : Some d ≡ Some e = at in (omega arith, ap (λ (x : Entered). x.number) (let one : d ≡ e = cc in one))
number_there (d ∷ ds) (suc k) e at = let rest = number_there ds k e at in (omega (arith, rest.0), rest.1)

-- the directories that a walk has entered are those below
pub below_by : (I : List (List ℕ)) (L : VolumeLayout) (from to : ℕ) (ds : List Entered) (has : Bool) → from ≢ to → IsDirectoryFile I L from → AreReached I L from (4 ∷ []) ds
    → MatchBool has (Contains (numbers ds) to) (¬ Contains (numbers ds) to) → MatchBool has (HasBelow I L from to) (¬ HasBelow I L from to)
below_by I L from to ds true other directory reached has =
    let found = at_map ds has.0 to has.1 has.2 in
    let at = number_there ds has.0 found.0 found.1 in
    inr (directory, (path_to ds has.0, subst (LeadsPast I L (4 ∷ []) from (path_to ds has.0)) (at.1 ∙ found.2) (reached.only has.0 at.0)))
below_by I L from to ds false other directory reached none = λ below. elim below [ inl same ↦ other same | inr leads ↦ none (reached.all leads.1.0 to leads.1.1) ]
