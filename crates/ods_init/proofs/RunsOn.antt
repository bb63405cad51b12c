-- The pointers of blocks that follow one another.
use Rattle.std.proofs.Common.{◌≡◌, ℕ, ◌+◌, ◌-◌, ◌*◌, ◌/◌, ◌^◌, ◌<◌, ◌≤◌, min, List, [], ◌∷◌, ◌++◌, length, sym, ap, subst, ◌∙◌, arith}
use Rattle.std.proofs.lemmas.List.{append-nil, length_push}
use Rattle.std.proofs.lemmas.List.Concat.{flat_map-append}
use Rattle.std.proofs.lemmas.List.Elements.{All-append, All-cons, All-nil}
use Rattle.std.specs.List.{All, flat_map, range_with_len}
use Rattle.ods_header.specs.declared.header.Run.{Run}
use Rattle.ods_header.specs.Header.{IsRun, run_blocks}
use Rattle.ods_header.proofs.HeaderPlaces.{range_append}

-- these are the first k pointers of so many blocks from the first on
pub record AreFirstRuns (first count k : ℕ) (runs : List Run) : Type 0 where
  pub size : length runs ≡ k
  pub fit : All IsRun runs
  pub blocks : flat_map run_blocks runs ≡ range_with_len first (min count (256 * k))

-- one more
pub one_more_run : (first count k : ℕ) (runs new : List Run) (r : Run) → new ≡ runs ++ r ∷ [] → first + count ≤ 2 ^ 20 → k < (count + 255) / 256 → r.lbn ≡ first + 256 * k → r.count ≡ min (count - 256 * k) 256 → AreFirstRuns first count k runs → AreFirstRuns first count (k + 1) new
one_more_run first count k runs new r e inside more lbn size old =
    let before : min count (256 * k) ≡ 256 * k = omega arith in
    let both : min count (256 * k) + r.count ≡ min count (256 * (k + 1)) = omega arith in
    let next : run_blocks r ≡ range_with_len (first + min count (256 * k)) r.count = ap (λ (a : ℕ). range_with_len a r.count) (lbn ∙ ap (λ (n : ℕ). first + n) (sym before)) in
    subst (λ (l : List Run). AreFirstRuns first count (k + 1) l) (sym e) (record {
      size = length_push runs r ∙ ap (λ (n : ℕ). n + 1) old.size;
      fit = All-append IsRun runs (r ∷ []) old.fit (All-cons IsRun r [] (record { lbn = omega arith; some = omega arith; most = omega arith }) (All-nil IsRun));
      blocks =
          flat_map-append run_blocks runs (r ∷ [])
          ∙ ap (λ (l : List ℕ). l ++ (run_blocks r ++ [])) old.blocks
          ∙ ap (λ (l : List ℕ). range_with_len first (min count (256 * k)) ++ l) (append-nil (run_blocks r) ∙ next)
          ∙ sym (range_append first (min count (256 * k)) r.count)
          ∙ ap (λ (n : ℕ). range_with_len first n) both;
    })
