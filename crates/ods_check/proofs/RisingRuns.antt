-- The runs of blocks among findings.
use Rattle.std.proofs.Common.{◌≡◌, ℕ, ◌==◌, Bool, true, false, if◌then◌else◌, map, List, [], ◌∷◌, ◌++◌, refl, sym, subst, ap, ◌∙◌}
use Rattle.std.specs.List.{All, flat_map}
use Rattle.std.proofs.lemmas.Bool.{eqb-true}
use Rattle.std.proofs.lemmas.Grind.{flat_map-append}
use Rattle.std.proofs.lemmas.List.{append-nil}
use Rattle.std.proofs.lemmas.List.Concat.{flat_map-cons}
use Rattle.std.proofs.lemmas.List.Elements.{All-head, All-tail}
use Rattle.ods_space.specs.Layout.{VolumeLayout}
use Rattle.ods_check.specs.declared.finding.Finding.{Finding}
use Rattle.ods_check.specs.declared.finding.Finding.TheVariants.{HeldByNone, RunHeldByNone}
use Rattle.ods_check.specs.Lists.{Adds}
use Rattle.ods_check.specs.Runs.{AddsRuns, AreRising}
use Rattle.ods_check.specs.Findings.{IsHeldByNone, IsFound, IsOtherFound, run_of, runs_of, unheld_line}
use Rattle.ods_check.proofs.Adding.{adds_as}

-- what is another finding is a finding
pub found_too : (I : List (List ℕ)) (L : VolumeLayout) (old new : List Finding × ℕ) → Adds (IsOtherFound I L) old new → Adds (IsFound I L) old new
found_too I L old new a = adds_as (IsOtherFound I L) (IsFound I L) old new (λ x h. h.0) a

-- findings of other kinds tell of no run
no_runs : (I : List (List ℕ)) (L : VolumeLayout) (xs : List Finding) → All (IsOtherFound I L) xs → runs_of xs ≡ []
no_runs I L [] all = refl
no_runs I L (x ∷ xs) all = flat_map-cons run_of x xs ∙ ap (λ l. l ++ runs_of xs) (All-head (IsOtherFound I L) x xs all).1 ∙ no_runs I L xs (All-tail (IsOtherFound I L) x xs all)

-- the line of a run tells of it
run_by : (first last : ℕ) (b : Bool) → (first == last) ≡ b → run_of (if b then HeldByNone first else RunHeldByNone first last) ≡ (first, last) ∷ []
run_by first last true e = let same = eqb-true first last e in ap (λ k. (first, k) ∷ []) same
run_by first last false e = refl

runs_told : (rs : List (ℕ × ℕ)) → runs_of (map (λ r. unheld_line r.0 r.1) rs) ≡ rs
runs_told [] = refl
runs_told (r ∷ rs) =
    let line : ℕ × ℕ → Finding = λ s. unheld_line s.0 s.1 in
    flat_map-cons run_of (line r) (map line rs) ∙ ap (λ l. l ++ runs_of (map line rs)) (run_by r.0 r.1 (r.0 == r.1) refl) ∙ ap (λ l. r ∷ l) (runs_told rs)

-- where runs are told in order, and nothing but other findings before and behind them, the runs of all findings are in order
pub rising_found : (I : List (List ℕ)) (L : VolumeLayout) (start mid late new : List Finding × ℕ) → start.0 ≡ [] → Adds (IsOtherFound I L) start mid → AddsRuns (IsHeldByNone I L) unheld_line mid late → Adds (IsOtherFound I L) late new
    → AreRising (runs_of new.0)
rising_found I L start mid late new none before runs behind =
    let line : ℕ × ℕ → Finding = λ s. unheld_line s.0 s.1 in
    let first : mid.0 ≡ before.more = ap (λ l. l.0) before.is ∙ ap (λ l. l ++ before.more) none in
    let second : late.0 ≡ before.more ++ map line runs.runs = ap (λ l. l.0) runs.is ∙ ap (λ l. l ++ map line runs.runs) first in
    let third : new.0 ≡ (before.more ++ map line runs.runs) ++ behind.more = ap (λ l. l.0) behind.is ∙ ap (λ l. l ++ behind.more) second in
    let all : runs_of new.0 ≡ runs.runs =
    ap runs_of third ∙ flat_map-append run_of (before.more ++ map line runs.runs) behind.more ∙ ap (λ l. runs_of (before.more ++ map line runs.runs) ++ l) (no_runs I L behind.more behind.each)
    ∙ append-nil (runs_of (before.more ++ map line runs.runs)) ∙ flat_map-append run_of before.more (map line runs.runs)
    ∙ ap (λ l. l ++ runs_of (map line runs.runs)) (no_runs I L before.more before.each) ∙ runs_told runs.runs in
    subst AreRising (sym all) runs.rising
