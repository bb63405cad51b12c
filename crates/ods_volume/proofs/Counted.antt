-- The counts of the bitmaps that a volume keeps.
use Rattle.std.proofs.Common.{◌≡◌, ◌≢◌, ℕ, refl, sym, ◌∙◌, true, List, [], Option, Some, None}
use Rattle.std.specs.Prelude.{Result, Ok, Err, OnErr, unwrap_or}
use Rattle.std.proofs.lemmas.List.{ext_get_or}
use Rattle.ods_space.specs.Layout.{Disk, VolumeLayout}
use Rattle.ods_alloc.specs.Counts.{AreCountsAfter, Counts, counts_of}
use Rattle.ods_request.specs.declared.requests.Query.{Query}
use Rattle.ods_request.specs.declared.requests.Query.TheVariants as query
use Rattle.ods_request.specs.declared.requests.Request.{Request}
use Rattle.ods_request.specs.declared.requests.Request.TheVariants.{Create, Extend, Truncate, Delete, Enter, LookUp, Remove, Read, Write, List as Lines, Stat, SetUser}
use Rattle.ods_request.specs.Queries.{request_of}
use Rattle.ods_request.specs.Table.{takes_memory}
use Rattle.ods_state.specs.Moves.{ChangesOnlyTouched, Touches}

-- a query touches no block
untouched : (D E : Disk) (q : Query) (x : ℕ) → ¬ Touches D (request_of q) E x
untouched D E (query.LookUp dir name pick) x touched = touched
untouched D E (query.Read file vbn) x touched = touched
untouched D E (query.Stat file) x touched = touched

-- so the blocks after it are those before it
pub query_changes_none : (D E : Disk) (q : Query) → ChangesOnlyTouched D (request_of q) E → E.image ≡ D.image
query_changes_none D E q only = ext_get_or [] E.image D.image only.0 (λ x below. only.1 x (untouched D E q x))

-- each request that is no query takes memory
pub other_takes_memory : (r : Request) → ((q : Query) → request_of q ≢ r) → takes_memory r ≡ true
other_takes_memory (LookUp dir name pick) queries = absurd (queries (query.LookUp dir name pick) refl)
other_takes_memory (Read file vbn) queries = absurd (queries (query.Read file vbn) refl)
other_takes_memory (Stat file) queries = absurd (queries (query.Stat file) refl)
other_takes_memory (Create name version blocks stamp) queries = refl
other_takes_memory (Extend file blocks) queries = refl
other_takes_memory (Truncate file blocks) queries = refl
other_takes_memory (Delete file) queries = refl
other_takes_memory (Enter dir name version file) queries = refl
other_takes_memory (Remove dir name pick) queries = refl
other_takes_memory (Write file vbn block) queries = refl
other_takes_memory (Lines dir) queries = refl
other_takes_memory (SetUser file attributes) queries = refl

-- the counts that are put in place are those of the image as it is then
pub put_in_place : (I J : List (List ℕ)) (L : VolumeLayout) (old : Counts) (new : Option Counts) → old ≡ counts_of I L → AreCountsAfter I J L new → unwrap_or new old ≡ counts_of J L
put_in_place I J L old None is same = is ∙ sym same
put_in_place I J L old (Some now) is new = new

-- what holds in any case holds after an error
pub on_any_error : {A E P : Type 0} → (r : Result A E) → P → OnErr r P
on_any_error (Ok a) holds = tt
on_any_error (Err e) holds = holds
