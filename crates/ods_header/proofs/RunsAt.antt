-- The pointers of a header, one by one.
use Rattle.std.proofs.Common.{◌≡◌, ℕ, ◌/◌, ◌<◌, List, length, Some, ap, ◌∙◌, arith}
use Rattle.std.specs.Prelude.{slice_get}
use Rattle.std.proofs.lemmas.List.FromFn.{length-map-range_with_len, get_or-map-range_with_len}
use Rattle.std.proofs.lemmas.Option.{slice_get-get_or}
use Rattle.ods_header.specs.declared.header.Run.{Run}
use Rattle.ods_header.specs.Header.{runs_of, run_at, used_words_of}

pub length-runs_of : (b : List ℕ) → length (runs_of b) ≡ used_words_of b / 2
unfolding runs_of
length-runs_of b = length-map-range_with_len (run_at b) 0 (used_words_of b / 2)

pub slice_get-runs_of : (b : List ℕ) (k : ℕ) → k < length (runs_of b) → slice_get (runs_of b) k ≡ Some (run_at b k)
unfolding runs_of
slice_get-runs_of b k within =
    let d : Run = record { lbn = 0; count = 0 } in
    let inside : k < used_words_of b / 2 = omega (arith, within, length-runs_of b) in
    slice_get-get_or (runs_of b) k d within ∙ ap Some (get_or-map-range_with_len (run_at b) 0 (used_words_of b / 2) k k d inside (omega arith))
