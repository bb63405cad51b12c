-- Lists that are gone through from the first on, up to one where a command stops.
use Rattle.std.proofs.Common.{◌≡◌, ◌+◌, ◌<◌, ◌≤◌, ◌∙◌, sym, subst, inl, inr, refl, ℕ, zero, suc, List, [], ◌∷◌, ◌++◌, length, get_or, drop, drop-cons, Result, Ok, Err, add-one, arith}
use Rattle.std.specs.Prelude.{IfErr, OnErr}
use Rattle.std.specs.String.{string_bytes}
use Rattle.std.proofs.lemmas.Bool.{cases_lt}
use Rattle.ods_request.specs.declared.requests.Request.{Request}
use Rattle.ods_filing.specs.Filed.{Filed}
use Rattle.ods_shell.specs.declared.found.Found.{Found}
use Rattle.ods_upkeep.specs.declared.failure.Failure.{Failure}
use Rattle.ods_upkeep.specs.declared.failure.Why.{Why}
use Rattle.ods_upkeep.specs.Refused.{AreNotKept, HasPath, IsFirstKept, IsOutOfMemory, IsRefusedBy, StopsAt, no_memory}
use Rattle.ods_upkeep.specs.Removed.{Does}

-- what is left from a place on begins with what stands there
pub left_from : {X : Type 0} (all : List X) (i : ℕ) (x : X) → i < length all → x ≡ get_or all i x → drop i all ≡ x ∷ drop (i + 1) all
left_from all i x within is = drop-cons all i x within ∙ (λ j. sym is j ∷ drop (sym (add-one i) j) all)

-- what follows from the promises of a call, where it fails
pub if_failed : {A E P : Type 0} {Q R : E → Type 0} (result : Result A E) → (P → (why : E) → Q why → R why) → OnErr result P → IfErr result Q → IfErr result R
if_failed (Ok a) so same refused = tt
if_failed (Err e) so same refused = so same e refused

-- no path is said, and there is no memory
pub no_path : (failure : Failure) → HasPath failure [] → failure.why ≡ no_memory → IsOutOfMemory failure
no_path failure (inl none) why = (none, why)
no_path failure (inr none) why = (none, why)

-- the first of some requests, one behind the other, stop
pub stops_first : (old new : Filed) (rs qs : List Request) (why : Why) → StopsAt old rs new why → StopsAt old (rs ++ qs) new why
stops_first old new [] qs why stop = absurd stop
stops_first old new (r ∷ rs) qs why (inl here) = inl here
stops_first old new (r ∷ rs) qs why (inr later) = inr (later.0, later.1, stops_first later.0 new rs qs why later.2)

-- the first are done, and those behind them stop
pub stops_later : (old mid new : Filed) (rs qs : List Request) (why : Why) → Does old rs mid → StopsAt mid qs new why → StopsAt old (rs ++ qs) new why
stops_later old mid new [] qs why same stop = subst (λ f. StopsAt f qs new why) same stop
stops_later old mid new (r ∷ rs) qs why first stop = inr (first.0, first.1, stops_later first.0 mid new rs qs why first.2 stop)

-- one request is refused
pub stops_one : (old new : Filed) (r : Request) → new ≡ old → (why : Why) → IsRefusedBy old r why → StopsAt old (r ∷ []) new why
stops_one old new r same why refused = inl (same, inl refused)

-- none of the first of these is one that is kept
abbrev pub NoneKeptBefore : (Found → Why → Type 0) → List Found → ℕ → Type 0
NoneKeptBefore IsKept all i = (k : ℕ) (d : Found) → k < i → k < length all → (why : Why) → ¬ IsKept (get_or all k d) why

-- what was gone through up to a place: none of it is kept, and where what is left begins with one that is, that is the first of all
pub record IsPassed (IsKept : Found → Why → Type 0) (all : List Found) (i : ℕ) : Type 0 where
  pub none : NoneKeptBefore IsKept all i
  pub on : (failure : Failure) → IsFirstKept IsKept (drop i all) failure → IsFirstKept IsKept all failure

-- nothing, at the start
pub none_passed : (IsKept : Found → Why → Type 0) (all : List Found) → IsPassed IsKept all 0
none_passed IsKept all = record { none = λ k d low within why kept. absurd (omega (arith, low)); on = λ failure first. first }

-- an element that is there is the same whatever stands for one that is not
pub other_default : {X : Type 0} (all : List X) (k : ℕ) (d e : X) → k < length all → get_or all k d ≡ get_or all k e
other_default [] k d e within = absurd (omega (arith, within))
other_default (x ∷ all) zero d e within = refl
other_default (x ∷ all) (suc k) d e within = other_default all k d e (omega (arith, within))

-- one more that is not kept
pub passed_more : (IsKept : Found → Why → Type 0) (all : List Found) (i : ℕ) (x : Found) → i < length all → x ≡ get_or all i x → IsPassed IsKept all i → ((why : Why) → ¬ IsKept x why) → IsPassed IsKept all (i + 1)
passed_more IsKept all i x within is so_far free = record {
  none = λ k d low inside. elim (cases_lt k i) [
    | inl less ↦ so_far.none k d less inside
    | inr more ↦
        let same : i ≡ k = omega (arith, low, more) in
        let here : x ≡ get_or all k d = is ∙ other_default all i x d within ∙ (λ j. get_or all (same j) d) in
        subst (λ y. (why : Why) → ¬ IsKept y why) here free
  ];
  on = λ failure first. so_far.on failure (subst (λ l. IsFirstKept IsKept l failure) (sym (left_from all i x within is)) (inr (free, first)));
}

-- all are passed, and so none is kept
pub all_passed : (IsKept : Found → Why → Type 0) (all : List Found) (i : ℕ) → length all ≤ i → IsPassed IsKept all i → AreNotKept IsKept all
all_passed IsKept all i end passed = λ k d within. passed.none k d (omega (arith, end, within)) within

-- one that is kept, of which the failure tells
pub first_kept : (IsKept : Found → Why → Type 0) (all : List Found) (i : ℕ) (x : Found) (text : List ℕ) (why : Why) (failure : Failure) → i < length all → x ≡ get_or all i x → IsPassed IsKept all i → IsKept x why
    → failure.why ≡ why → text ≡ string_bytes x.path → HasPath failure text → IsFirstKept IsKept all failure
first_kept IsKept all i x text why failure within is passed kept reason path said =
    passed.on failure (subst (λ l. IsFirstKept IsKept l failure) (sym (left_from all i x within is)) (inl (subst (IsKept x) (sym reason) kept, subst (HasPath failure) path said)))
