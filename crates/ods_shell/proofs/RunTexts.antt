-- The texts of runs, up to one block more.
use Rattle.std.proofs.Common.{◌≡◌, ◌∙◌, ℕ, suc, ◌+◌, ◌≤◌, Bool, true, false, List, [], ◌∷◌, ◌++◌, ap, arith, sym, cond}
use Rattle.std.specs.List.{flat_map, range_with_len}
use Rattle.std.proofs.lemmas.List.{flat_map_more, map-id}
use Rattle.std.proofs.lemmas.List.FromFn.{map-range_with_len_more}
use Rattle.ods_shell.specs.Stat.{is_run_end, run_line, run_start, run_text, text_if}

pub start_next : (lbns : List ℕ) (at from next : ℕ) → from ≡ run_start lbns at → next ≡ cond (is_run_end lbns at) (at + 1) from → next ≡ run_start lbns (at + 1)
start_next lbns at from next was is =
    let one : at + 1 ≡ suc at = omega arith in
    is ∙ (λ i. cond (is_run_end lbns at) (one i) (was i)) ∙ ap (run_start lbns) (sym one)

low : (b : Bool) (at from next : ℕ) → from ≤ at → next ≡ cond b (at + 1) from → next ≤ at + 1
low true at from next below is = let here : next ≡ at + 1 = is in omega (arith, here)
low false at from next below is = let here : next ≡ from = is in omega (arith, here, below)

pub start_low : (lbns : List ℕ) (at from next : ℕ) → from ≤ at → next ≡ cond (is_run_end lbns at) (at + 1) from → next ≤ at + 1
start_low lbns at from next below is = low (is_run_end lbns at) at from next below is

pub range_more : (n : ℕ) → range_with_len 0 (n + 1) ≡ range_with_len 0 n ++ n ∷ []
range_more n = sym (map-id (range_with_len 0 (n + 1))) ∙ map-range_with_len_more (λ x. x) 0 n n (omega arith) ∙ ap (λ l. l ++ n ∷ []) (map-id (range_with_len 0 n))

pub runs_more : (lbns : List ℕ) (at from : ℕ) (init old new : List ℕ) → from ≡ run_start lbns at → old ≡ init ++ flat_map (run_text lbns) (range_with_len 0 at) → new ≡ old ++ text_if (is_run_end lbns at) (run_line lbns from at)
    → new ≡ init ++ flat_map (run_text lbns) (range_with_len 0 (at + 1))
runs_more lbns at from init old new start before adds =
    adds ∙ (λ i. before i ++ text_if (is_run_end lbns at) (run_line lbns (start i) at))
    ∙ flat_map_more (run_text lbns) init (range_with_len 0 at) at ∙ ap (λ l. init ++ flat_map (run_text lbns) l) (sym (range_more at))
