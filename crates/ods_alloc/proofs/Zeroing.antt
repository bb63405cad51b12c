-- Blocks become zeros run by run.
use Rattle.std.proofs.Common.{◌≡◌, ◌≢◌, ℕ, ◌+◌, ◌-◌, ◌<◌, ◌≤◌, List, [], ◌∷◌, ◌++◌, length, take, get_or, sym, ap, ◌∙◌, subst, inl, inr, arith}
use Rattle.std.specs.List.{Contains, flat_map}
use Rattle.std.specs.Prelude.{unwrap_or}
use Rattle.std.proofs.lemmas.Bool.{cases_lt}
use Rattle.std.proofs.lemmas.List.{append-nil, take_more, get_or_past}
use Rattle.std.proofs.lemmas.List.Elements.{Contains-append_left, Contains-append_right, Contains-append_cases}
use Rattle.std.proofs.lemmas.List.FromFn.{length-range_with_len, get_or-range_with_len}
use Rattle.std.proofs.lemmas.Grind.{flat_map-append}
use Rattle.ods_base.specs.Block.{zeros}
use Rattle.ods_base.specs.Image.{block_at}
use Rattle.ods_header.specs.declared.header.Run.{Run}
use Rattle.ods_header.specs.Header.{run_blocks}
use Rattle.ods_space.specs.Draft.{Changes, change_at, applied, zeroed}
use Rattle.ods_space.proofs.Drafts.{all_from, block_at-applied, change_at-inside, change_at-outside, length-applied, seen_at-append}
use Rattle.ods_alloc.specs.Zeroed.{IsZeroed}

in_run : (r : Run) (x : ℕ) → r.lbn ≤ x → x < r.lbn + r.count → Contains (run_blocks r) x
in_run r x low high =
    let small : x - r.lbn < r.count = omega arith in
    let back : r.lbn + (x - r.lbn) ≡ x = omega arith in
    (x - r.lbn, omega (arith, small, length-range_with_len r.lbn r.count), get_or-range_with_len r.lbn r.count (x - r.lbn) x small ∙ back)

of_run : (r : Run) (x : ℕ) → Contains (run_blocks r) x → (r.lbn ≤ x) × (x < r.lbn + r.count)
of_run r x (k, less, is) =
    let small : k < r.count = omega (arith, less, length-range_with_len r.lbn r.count) in
    let at : r.lbn + k ≡ x = sym (get_or-range_with_len r.lbn r.count k x small) ∙ is in
    (omega arith, omega arith)

seen_is : (I : List (List ℕ)) (d : Changes) (r : Run) (x : ℕ) → x < length I → block_at (applied I (zeroed r d)) x ≡ unwrap_or (change_at (all_from zeros r.lbn r.count) x) (block_at (applied I d) x)
seen_is I d r x inside =
    block_at-applied I (zeroed r d) x inside ∙ seen_at-append I (all_from zeros r.lbn r.count) d x
    ∙ ap (λ b. unwrap_or (change_at (all_from zeros r.lbn r.count) x) b) (sym (block_at-applied I d x inside))

-- what is past the end of an image is no block
past_is : (J : List (List ℕ)) (x : ℕ) → length J ≤ x → block_at J x ≡ []
past_is J x past = get_or_past J x [] past

-- one run more becomes zeros
pub zeroed_more : (I J : List (List ℕ)) (d : Changes) (blocks : List ℕ) (r : Run) → length J ≡ length I → IsZeroed J blocks (applied I d) → IsZeroed J (blocks ++ run_blocks r) (applied I (zeroed r d))
zeroed_more I J d blocks r same done = record {
  long = length-applied I (zeroed r d) ∙ sym same;
  zero = λ x within inside. elim (cases_lt x r.lbn) [
    | inl low ↦ older x (omega (arith, same, inside)) (λ k small e. absurd (omega (arith, e))) (λ own. absurd (let at = (of_run r x own).0 in omega (arith, at))) within inside
    | inr high ↦ elim (cases_lt x (r.lbn + r.count)) [
      | inl reached ↦ seen_is I d r x (omega (arith, same, inside)) ∙ ap (λ o. unwrap_or o (block_at (applied I d) x)) (change_at-inside zeros r.lbn r.count x high reached)
      | inr behind ↦ older x (omega (arith, same, inside)) (λ k small e. absurd (omega (arith, e))) (λ own. absurd (let at = (of_run r x own).1 in omega (arith, at))) within inside
    ]
  ];
  elsewhere = λ x out. elim (cases_lt x (length I)) [
    | inl inside ↦ stays x inside (λ k small e. out (Contains-append_right blocks (run_blocks r) x (in_run r x (omega (arith, e)) (omega (arith, e))))) ∙ done.elsewhere x (λ own. out (Contains-append_left blocks (run_blocks r) x own))
    | inr past ↦ past_is (applied I (zeroed r d)) x (omega (arith, past, length-applied I (zeroed r d))) ∙ sym (past_is J x (omega (arith, past, same)))
  ];
}
  where
    stays : (x : ℕ) → x < length I → ((k : ℕ) → k < r.count → r.lbn + k ≢ x) → block_at (applied I (zeroed r d)) x ≡ block_at (applied I d) x
    stays x inside apart = seen_is I d r x inside ∙ ap (λ o. unwrap_or o (block_at (applied I d) x)) (change_at-outside zeros r.lbn r.count x apart)

    older : (x : ℕ) → x < length I → ((k : ℕ) → k < r.count → r.lbn + k ≢ x) → ¬ Contains (run_blocks r) x → Contains (blocks ++ run_blocks r) x → x < length J → block_at (applied I (zeroed r d)) x ≡ zeros
    older x inside apart out within here = elim (Contains-append_cases blocks (run_blocks r) x within) [
      | inl own ↦ stays x inside apart ∙ done.zero x own here
      | inr new ↦ absurd (out new)
    ]

-- run k of these becomes zeros too
pub zeroed_next : (I J : List (List ℕ)) (d e : Changes) (rs : List Run) (k : ℕ) (z : Run) → length J ≡ length I → k < length rs → e ≡ zeroed (get_or rs k z) d
    → IsZeroed J (flat_map run_blocks (take k rs)) (applied I d) → IsZeroed J (flat_map run_blocks (take (k + 1) rs)) (applied I e)
zeroed_next I J d e rs k z same inside is done =
    let r : Run = get_or rs k z in
    let blocks : flat_map run_blocks (take k rs) ++ run_blocks r ≡ flat_map run_blocks (take (k + 1) rs) =
    ap (λ l. flat_map run_blocks (take k rs) ++ l) (sym (append-nil (run_blocks r))) ∙ sym (flat_map-append run_blocks (take k rs) (r ∷ []))
    ∙ ap (flat_map run_blocks) (sym (take_more rs k z inside)) in
    subst (λ K. IsZeroed J (flat_map run_blocks (take (k + 1) rs)) K) (ap (applied I) (sym is))
    (subst (λ bs. IsZeroed J bs (applied I (zeroed r d))) blocks (zeroed_more I J d (flat_map run_blocks (take k rs)) r same done))
