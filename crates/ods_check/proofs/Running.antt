-- Runs of numbers that are found in one pass.
use Rattle.std.proofs.Common.{◌≡◌, ℕ, ◌+◌, ◌-◌, ◌<◌, ◌≤◌, length, map, List, [], ◌∷◌, ◌++◌, inl, inr, refl, sym, subst, ap, ◌∙◌, append_assoc, arith}
use Rattle.std.specs.List.{All, Contains}
use Rattle.std.proofs.lemmas.Bool.{cases_lt}
use Rattle.std.proofs.lemmas.List.{append-nil, map-append, length-append, length-map, get_or-map}
use Rattle.std.proofs.lemmas.List.Elements.{All-nil, All-cons, All-push, All-map, Contains-append_left, Contains-append_right, Contains-push}
use Rattle.std.proofs.lemmas.Option.{slice_get_within}
use Rattle.ods_check.specs.Runs.{IsRun, IsInOne, AreRising, AddsRuns, GetsRun, GoesOn}
use Rattle.ods_check.specs.Lists.{Adds}
use Rattle.ods_check.proofs.Turning.{at_place, of_append}

-- The runs that end before start are told, and each number from start on and below k is so.
pub record Finds {X : Type 0} (Is : ℕ → Type 0) (line : ℕ → ℕ → X) (old new : List X × ℕ) (start k : ℕ) : Type 0 where
  pub runs : List (ℕ × ℕ)
  pub is : new ≡ (old.0 ++ map (λ r. line r.0 r.1) runs, old.1)
  pub each : All (λ r. IsRun Is r.0 r.1 × (r.1 < start)) runs
  pub all : (n : ℕ) → n < start → Is n → IsInOne runs n
  pub rising : AreRising runs
  pub since : (n : ℕ) → start ≤ n → n < k → Is n
  pub before : (n : ℕ) → n + 1 ≡ start → ¬ Is n
  pub low : start ≤ k

-- one more line behind those that were added
told_behind : {X : Type 0} (old mid new : List X × ℕ) (xs : List X) (y : X) → mid ≡ (old.0 ++ xs, old.1) → new ≡ (mid.0 ++ y ∷ [], mid.1) → new ≡ (old.0 ++ (xs ++ y ∷ []), old.1)
told_behind old mid new xs y was is = is ∙ ap (λ l. (l.0 ++ y ∷ [], l.1)) was ∙ ap (λ l. (l, old.1)) (append_assoc old.0 xs (y ∷ []))

module _ {X : Type 0} (Is : ℕ → Type 0) (line : ℕ → ℕ → X) where
  pub none_found : (xs : List X × ℕ) → Finds Is line xs xs 0 0
  none_found xs = record {
    runs = [];
    is = ap (λ l. (l, xs.1)) (sym (append-nil xs.0));
    each = All-nil _;
    all = λ n less h. absurd (omega arith);
    rising = λ i j r s at also less. absurd (let within = slice_get_within [] i r at in omega arith);
    since = λ n from less. absurd (omega arith);
    before = λ n e. absurd (omega arith);
    low = omega arith;
  }

  module _ (old mid new : List X × ℕ) (start k : ℕ) (f : Finds Is line old mid start k) where
    -- the run goes on
    found_on : Is k → new ≡ mid → Finds Is line old new start (k + 1)
    found_on here same =
        let low = f.low in
        record {
          runs = f.runs;
          is = same ∙ f.is;
          each = f.each;
          all = f.all;
          rising = f.rising;
          since = λ n from less. elim (cases_lt n k) [
            | inl before ↦ f.since n from before
            | inr more ↦ let e : k ≡ n = omega arith in subst Is e here
          ];
          before = f.before;
          low = omega arith;
        }

    module _ (other : ¬ Is k) where
      -- no run ends here
      found_none : start ≡ k → new ≡ mid → Finds Is line old new (k + 1) (k + 1)
      found_none end same = record {
        runs = f.runs;
        is = same ∙ f.is;
        each = λ i d within. let was = f.each i d within in (was.0, (let less = was.1 in omega arith));
        all = λ n less h. elim (cases_lt n start) [
          | inl before ↦ f.all n before h
          | inr more ↦ let e : n ≡ k = omega arith in absurd (other (subst Is e h))
        ];
        rising = f.rising;
        since = λ n from less. absurd (omega arith);
        before = λ n e h. let at : n ≡ k = omega arith in other (subst Is at h);
        low = omega arith;
      }

      -- a run ends before number k
      found_run : start < k → new ≡ (mid.0 ++ line start (k - 1) ∷ [], mid.1) → Finds Is line old new (k + 1) (k + 1)
      found_run some is =
          let run : ℕ × ℕ = (start, k - 1) in
          let text : ℕ × ℕ → X = λ r. line r.0 r.1 in
          let last : k ≡ k - 1 + 1 = omega arith in
          let own : IsRun Is start (k - 1) = record {
            forwards = omega arith;
            each = λ n from to. f.since n from (omega arith);
            before = f.before;
            behind = λ h. other (subst Is (sym last) h);
          } in
          let size = length-append f.runs (run ∷ []) in
          record {
            runs = f.runs ++ run ∷ [];
            is = told_behind old mid new (map text f.runs) (line start (k - 1)) f.is is ∙ ap (λ l. (old.0 ++ l, old.1)) (sym (map-append text f.runs (run ∷ [])));
            each = All-push (λ r. IsRun Is r.0 r.1 × (r.1 < k + 1)) f.runs run (λ i d within. let was = f.each i d within in (was.0, (let less = was.1 in omega arith))) (own, omega arith);
            all = λ n less h. elim (cases_lt n start) [
              | inl before ↦ let was = f.all n before h in (was.0, Contains-append_left f.runs (run ∷ []) was.0 was.1, was.2, was.3)
              | inr more ↦ elim (cases_lt n k) [
                | inl before ↦ (run, Contains-push f.runs run, more, omega arith)
                | inr end ↦ let e : n ≡ k = omega arith in absurd (other (subst Is e h))
              ]
            ];
            rising = λ i j r s at also less. elim (of_append f.runs (run ∷ []) j s also) [
              | inl second ↦ elim (of_append f.runs (run ∷ []) i r at) [
                | inl first ↦ f.rising i j r s first second less
                | inr (h, same, first) ↦ absurd (let within = slice_get_within f.runs j s second in omega arith)
              ]
              | inr (h, same, second) ↦ elim (of_append f.runs (run ∷ []) i r at) [
                | inl first ↦
                    let P : ℕ × ℕ → Type 0 = λ y. y ≡ run in
                    let is_run = at_place P (run ∷ []) h s (All-cons P run [] refl (All-nil P)) second in
                    let begins : s.0 ≡ start = ap (λ y. y.0) is_run in
                    let ends = (at_place (λ r. IsRun Is r.0 r.1 × (r.1 < start)) f.runs i r f.each first).1 in
                    omega arith
                | inr (g, too, first) ↦
                    absurd (let within = slice_get_within (run ∷ []) h s second in omega arith)
              ]
            ];
            since = λ n from less. absurd (omega arith);
            before = λ n e h. let at : n ≡ k = omega arith in other (subst Is at h);
            low = omega arith;
          }

      found_end : GetsRun line start k mid new → Finds Is line old new (k + 1) (k + 1)
      found_end (inl (end, same)) = found_none end same
      found_end (inr (some, is)) = found_run some is

    -- one number more
    pub found_more : (next : ℕ) → GoesOn Is line start k mid new next → Finds Is line old new next (k + 1)
    found_more next (inl (here, same, is)) = let P : ℕ → Type 0 = λ s. Finds Is line old new s (k + 1) in subst P (sym same) (found_on here is)
    found_more next (inr (other, behind, gets)) = let P : ℕ → Type 0 = λ s. Finds Is line old new s (k + 1) in subst P (sym behind) (found_end other gets)

    -- where no number from len on is so, the last run ends there
    ends_at : (len : ℕ) → ((n : ℕ) → Is n → n < len) → len ≤ k → start ≤ len → len ≡ k
    ends_at len few behind from = elim (cases_lt len k) [
      | inl less ↦ absurd (let low = few len (f.since len from less) in omega arith)
      | inr more ↦ omega arith
    ]

    got_from : (len : ℕ) → GetsRun line start len mid new → start ≤ len
    got_from len (inl (end, same)) = omega arith
    got_from len (inr (some, is)) = omega arith

    -- all runs are told
    pub found_all : (len : ℕ) → ((n : ℕ) → Is n → n < len) → len ≤ k → GetsRun line start len mid new → AddsRuns Is line old new
    found_all len few behind gets =
        let at = ends_at len few behind (got_from len gets) in
        let P : ℕ → Type 0 = λ e. GetsRun line start e mid new in
        let end = found_end (λ h. let less = few k h in omega arith) (subst P at gets) in
        record {
          runs = end.runs;
          is = end.is;
          each = λ i d within. (end.each i d within).0;
          all = λ n h. end.all n (let less = few n h in omega arith) h;
          rising = end.rising;
        }

  module _ (old new : List X × ℕ) (a : AddsRuns Is line old new) where
    -- what was added has P
    pub run_adds : (P : X → Type 0) → ((first last : ℕ) → IsRun Is first last → P (line first last)) → Adds P old new
    run_adds P holds = record { more = map (λ r. line r.0 r.1) a.runs; is = a.is; each = All-map P (λ r. line r.0 r.1) a.runs (λ i d low. holds _ _ (a.each i d low)) }

    -- each run is told
    pub run_told : (r : ℕ × ℕ) → Contains a.runs r → Contains new.0 (line r.0 r.1)
    run_told r there =
        let text : ℕ × ℕ → X = λ s. line s.0 s.1 in
        let i = there.0 in
        let within : i < length (map text a.runs) = (let size = length-map a.runs text in let low = there.1 in omega arith) in
        subst (λ l. Contains l (text r)) (sym (ap (λ l. l.0) a.is))
        (Contains-append_right old.0 (map text a.runs) (text r) (i, within, get_or-map text a.runs i r (text r) there.1 ∙ ap text there.2))
