-- A text with the headings of some directories behind it, and of one more.
use Rattle.std.proofs.Common.{◌≡◌, ◌∙◌, ℕ, ◌+◌, ◌-◌, ◌≤◌, ap, sym, arith, List, [], ◌∷◌, ◌++◌, length, slice_get}
use Rattle.std.specs.Prelude.{◌==◌}
use Rattle.std.specs.List.{range_with_len}
use Rattle.std.proofs.lemmas.List.Sums.{fold-append}
use Rattle.ods_alloc.proofs.Scans.{range-append}
use Rattle.ods_shell.specs.Lines.{heading, with_headings}
use Rattle.ods_shell.specs.declared.folders.Directory.{Directory}

pub heading_behind : (directories : List Directory) (start mid new places : List ℕ) (place : ℕ) → new ≡ mid ++ heading (length mid == 0) (slice_get directories place) → mid ≡ with_headings directories start places
    → new ≡ with_headings directories start (places ++ place ∷ [])
heading_behind directories start mid new places place is was =
    is ∙ ap (λ t. t ++ heading (length t == 0) (slice_get directories place)) was
    ∙ sym (fold-append (λ before place. before ++ heading (length before == 0) (slice_get directories place)) start places (place ∷ []))

pub headings_next : (directories : List Directory) (start old new : List ℕ) (from k : ℕ) → from ≤ k → new ≡ old ++ heading (length old == 0) (slice_get directories k)
    → old ≡ with_headings directories start (range_with_len from (k - from)) → new ≡ with_headings directories start (range_with_len from (k + 1 - from))
headings_next directories start old new from k low is was =
    let more : k + 1 - from ≡ (k - from) + 1 = omega (arith, low) in
    let last : from + (k - from) ≡ k = omega (arith, low) in
    let places : range_with_len from (k + 1 - from) ≡ range_with_len from (k - from) ++ k ∷ [] =
    ap (range_with_len from) more ∙ range-append from (k - from) 1 ∙ ap (λ n. range_with_len from (k - from) ++ n ∷ []) last in
    heading_behind directories start old new (range_with_len from (k - from)) k is was ∙ ap (with_headings directories start) (sym places)
