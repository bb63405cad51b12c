-- Scripts that were parsed side by side.
use Rattle.std.proofs.Common.{◌≡◌, ◌<◌, ℕ, zero, suc, List, [], ◌∷◌, length, map, Ok, refl, sym, ap, ◌∙◌, subst, arith}
use Rattle.std.specs.Prelude.{All, Result, IfOk, slice_index_or}
use Rattle.std.specs.declared.vec.Vec.{Vec}
use Rattle.std.specs.declared.alloc.Global.{Global}
use Rattle.std.specs.declared.alloc.AllocError.{AllocError}
use Rattle.ods_ask.specs.declared.script.Script.{Script}
use Rattle.ods_share.specs.Scripts.{CanBeRun}
use Rattle.ods_script.specs.Numbered.{AreCommandsOf}
use Rattle.ods_cli.specs.ScriptText.{AreScriptsOf, EachParsed}

abbrev pub fine : Script → Result Script AllocError
fine s = Ok s

index_map : (ss : List Script) (k : ℕ) (s : Script) → slice_index_or (map fine ss) k (fine s) ≡ fine (slice_index_or ss k s)
index_map [] k s = refl
index_map (x ∷ xs) zero s = refl
index_map (x ∷ xs) (suc k) s = index_map xs k s

map_len : (ss : List Script) → length (map fine ss) ≡ length ss
map_len [] = refl
map_len (x ∷ xs) = ap suc (map_len xs)

-- script k is that of text k, and can be obeyed
at : (texts : List (Vec ℕ Global)) (rs : List (Result Script AllocError)) (ss : List Script) → rs ≡ map fine ss → EachParsed texts rs →
    (k : ℕ) (t : Vec ℕ Global) (s : Script) → k < length texts → AreCommandsOf (slice_index_or texts k t).items (slice_index_or ss k s).commands.items × CanBeRun (slice_index_or ss k s).commands.items
at texts rs ss is each k t s lt =
    let found : IfOk (slice_index_or rs k (fine s)) (λ x. AreCommandsOf (slice_index_or texts k t).items x.commands.items × CanBeRun x.commands.items) = each k t (fine s) lt in
    let here : slice_index_or rs k (fine s) ≡ fine (slice_index_or ss k s) =
    subst (λ (l : List (Result Script AllocError)). slice_index_or l k (fine s) ≡ fine (slice_index_or ss k s)) (sym is) (index_map ss k s) in
    subst (λ (r : Result Script AllocError). IfOk r (λ x. AreCommandsOf (slice_index_or texts k t).items x.commands.items × CanBeRun x.commands.items)) here found

pub of_texts : (texts : List (Vec ℕ Global)) (rs : List (Result Script AllocError)) (ss : List Script) → rs ≡ map fine ss → EachParsed texts rs → AreScriptsOf texts ss
of_texts texts rs ss is each k t s lt = (at texts rs ss is each k t s lt).0

pub can_be_run : (texts : List (Vec ℕ Global)) (rs : List (Result Script AllocError)) (ss : List Script) → rs ≡ map fine ss → length rs ≡ length texts → EachParsed texts rs → All (λ s. CanBeRun s.commands.items) ss
can_be_run [] rs ss is same each k s lt = absurd (omega (arith, lt, same, ap length is, map_len ss))
can_be_run (t ∷ ts) rs ss is same each k s lt = (at (t ∷ ts) rs ss is each k t s (omega (arith, lt, same, ap length is, map_len ss))).1

pub as_many : (rs : List (Result Script AllocError)) (ss : List Script) → rs ≡ map fine ss → length rs ≡ length ss
as_many rs ss is = ap length is ∙ map_len ss
