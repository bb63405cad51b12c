-- The runs of INDEXF.SYS as objects, up to one block more.
use Rattle.std.proofs.Common.{◌≡◌, ◌∙◌, ℕ, ◌+◌, Bool, true, false, cond, List, [], ◌∷◌, ◌++◌, length, ap, refl, sym, String, Vec, BTreeMap, Global}
use Rattle.std.specs.Prelude.{codes, map}
use Rattle.std.specs.List.{flat_map, range_with_len}
use Rattle.std.proofs.lemmas.List.{flat_map_more}
use Rattle.serde_json.specs.Data.{Data, Members, no_members, array, object, put}
use Rattle.serde_json.specs.View.{items_of, members_view, view}
use Rattle.serde_json.specs.Written.{has_float, items_have_float, members_have_float}
use Rattle.serde_json.specs.declared.value.Value.{Value, Array, Object}
use Rattle.serde_json.proofs.Views.{view-Array, view-Object}
use Rattle.ods_shell.specs.Info.{run_ended, run_item, run_members, with_runs}
use Rattle.ods_shell.specs.Stat.{is_run_end, run_start}
use Rattle.ods_shell.proofs.Objects.{neither, number_plain, put_plain}
use Rattle.ods_shell.proofs.RunTexts.{range_more}

-- the object of a run has no float
run_plain : (lbns : List ℕ) (from at : ℕ) → has_float (object (run_members lbns from at)) ≡ false
run_plain lbns from at = number_plain (codes "lbn") _ _ (number_plain (codes "blocks") _ no_members refl)

ended_plain : (ends : Bool) (d : Data) (ds : List Data) → has_float d ≡ false → items_have_float (items_of ds) ≡ false → items_have_float (items_of (cond ends (d ∷ []) [] ++ ds)) ≡ false
ended_plain true d ds one rest = neither (has_float d) (items_have_float (items_of ds)) one rest
ended_plain false d ds one rest = rest

all_plain : (lbns places : List ℕ) → items_have_float (items_of (flat_map (run_item lbns) places)) ≡ false
all_plain lbns [] = refl
all_plain lbns (n ∷ places) =
    let from = run_start lbns n in
    ended_plain (is_run_end lbns n) (object (run_members lbns from n)) (flat_map (run_item lbns) places) (run_plain lbns from n) (all_plain lbns places)

seen : (runs : Vec Value Global) (all : List Data) → map view runs.items ≡ all → view (Array runs) ≡ array (items_of all)
seen runs all are = view-Array runs ∙ ap (λ ds. array (items_of ds)) are

pub runs_put : (lbns : List ℕ) (runs : Vec Value Global) (old new : Members) → map view runs.items ≡ flat_map (run_item lbns) (range_with_len 0 (length lbns)) → new ≡ put (codes "index_runs") (view (Array runs)) old
    → new ≡ with_runs lbns old
unfolding with_runs
runs_put lbns runs old new are put_there = put_there ∙ ap (λ d. put (codes "index_runs") d old) (seen runs (flat_map (run_item lbns) (range_with_len 0 (length lbns))) are)

pub runs_put_plain : (lbns : List ℕ) (runs : Vec Value Global) (old new : Members) → map view runs.items ≡ flat_map (run_item lbns) (range_with_len 0 (length lbns)) → new ≡ put (codes "index_runs") (view (Array runs)) old
    → members_have_float old ≡ false → members_have_float new ≡ false
runs_put_plain lbns runs old new are put_there plain =
    let all = flat_map (run_item lbns) (range_with_len 0 (length lbns)) in
    ap members_have_float put_there ∙ put_plain (codes "index_runs") (view (Array runs)) old (ap has_float (seen runs all are) ∙ all_plain lbns (range_with_len 0 (length lbns))) plain

pub object_seen : (m : BTreeMap (String Global) Value) (seen_in : Members) → members_view m.entries ≡ seen_in → view (Object m) ≡ object seen_in
object_seen m seen_in are = view-Object m ∙ ap object are

-- the runs up to one block more
pub runs_more : (lbns : List ℕ) (at from : ℕ) (old new : List Data) → from ≡ run_start lbns at → old ≡ flat_map (run_item lbns) (range_with_len 0 at) → new ≡ old ++ run_ended lbns from at
    → new ≡ flat_map (run_item lbns) (range_with_len 0 (at + 1))
runs_more lbns at from old new start before adds =
    adds ∙ (λ i. before i ++ run_ended lbns (start i) at)
    ∙ flat_map_more (run_item lbns) [] (range_with_len 0 at) at ∙ ap (flat_map (run_item lbns)) (sym (range_more at))
