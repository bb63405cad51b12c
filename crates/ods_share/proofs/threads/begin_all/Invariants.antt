use Rattle.std.proofs.Common.{◌≡◌, ◌+◌, ◌<◌, ◌≤◌, [], ℕ, length, drop, vec_len}
use Rattle.std.specs.Prelude.{slice_index_or}
use Rattle.std.specs.Vec.{vec_capacity}
use Rattle.std.specs.Vec.Iter.{into_iter_items, into_iter_len}
use Rattle.ods_views.specs.Viewers.{newly}
use Rattle.ods_ask.specs.declared.script.Script.{Script}
use Rattle.ods_share.proofs.threads.begin_all.Given as goal

abbrev pub invariant-loop-script : goal.invariant-loop-script
invariant-loop-script g l =
    (l.number ≡ l.script-index) × (vec_len l.handles ≡ l.script-index) × (length l.handles.items ≡ l.script-index)
    × ((k : ℕ) (d : _) (s : Script) → k < vec_len l.handles
    → ((slice_index_or l.handles.items k d).promise.script.value ≡ slice_index_or l.scripts k s) × ((slice_index_or l.handles.items k d).promise.stamp.value ≡ l.stamp)
    × ((slice_index_or l.handles.items k d).promise.viewer.value ≡ slice_index_or l.fn.viewers.items k (newly [])))
    × (length l.scripts ≤ l.script-index + into_iter_len l.viewers)
    × (into_iter_items l.viewers ≡ drop l.script-index l.fn.viewers.items)
    × (length l.scripts ≤ l.script-index + l.fulls.parts) × (l.fulls.amount ≡ 0) × (length l.scripts ≤ vec_capacity l.handles)
