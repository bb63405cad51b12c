use Rattle.std.proofs.Common.{◌≡◌, ◌≢◌, ℕ, ◌<◌, ap, sym, ◌∙◌, subst, List, length, arith}
use Rattle.std.specs.List.{All, flat_map}
use Rattle.ods_base.specs.Image.{block_at}
use Rattle.ods_header.specs.Header.{IsRun, run_blocks}
use Rattle.ods_header.specs.Pointing.{IsWithRuns}
use Rattle.ods_space.specs.Draft.{applied}
use Rattle.ods_space.specs.Layout.{VolumeLayout, header_at}
use Rattle.ods_space.proofs.Drafts.{applied_none}
use Rattle.ods_alloc.specs.Extend.{cut}
use Rattle.ods_alloc.specs.Zeroed.{IsZeroed}
use Rattle.ods_alloc.proofs.Appending.{appends}
use Rattle.ods_alloc.proofs.Cuts.{cut_blocks, cut_runs}
use Rattle.ods_alloc.proofs.OneBit.{put_other, put_same, size_put}
use Rattle.ods_alloc.proofs.Places.{place_inside}
use Rattle.ods_alloc.proofs.index.grow_index.Goals as goal

pub returns-clause-appends : goal.returns-clause-appends
returns-clause-appends c =
    let I : List (List ℕ) = c.args.disk.now.image.now in
    let L : VolumeLayout = c.args.disk.now.layout.now in
    let d = c.zero_runs.new.draft in
    let Z : List (List ℕ) = applied I d in
    let H : List (List ℕ) = applied I c.set.new.self in
    let p : ℕ = c.unwrap-place.result in
    let b : List ℕ = c.append_runs.result in
    let set = c.in_ok-set.ensures.ok in
    let at = sym c.place.ensures ∙ c.unwrap-place.ensures in
    let zeroed : IsZeroed I c.args.blocks.now Z = subst (λ J. IsZeroed J c.args.blocks.now Z) (ap (applied I) c.new-draft.ensures ∙ sym (applied_none I)) (subst (λ bs. IsZeroed (applied I c.new-draft.result) bs Z)
    (ap (flat_map run_blocks) c.requires.runs ∙ cut_blocks c.args.blocks.now) (c.in_ok-zero_runs.ensures I)) in
    let within : p < length I = place_inside (length I) L c.args.end p (record { index = c.requires.layout.index.whole.inside; bitmap = c.requires.layout.bitmap.whole.inside; places = c.requires.places }) at in
    let here : block_at H p ≡ b = ap (λ e. block_at (applied I e) p) set ∙ put_same I d p b within in
    let elsewhere : (x : ℕ) → x ≢ p → block_at H x ≡ block_at Z x = λ x other. ap (λ e. block_at (applied I e) x) set ∙ put_other I d p b x other in
    let long : length H ≡ length Z = ap (λ e. length (applied I e)) set ∙ size_put I d p b in
    let grown : IsWithRuns (header_at I L c.args.end) (cut c.args.blocks.now) b =
    subst (λ h. IsWithRuns h (cut c.args.blocks.now) b) c.requires.last.is
    (subst (λ rs. IsWithRuns c.args.last.now rs b) c.requires.runs c.append_runs.ensures.changed) in
    appends I Z H (applied I c.mark_blocks.new.draft) L c.args.end p b c.args.blocks.now c.requires.places at zeroed here elsewhere long c.in_ok-mark_blocks.ensures grown c.requires.inside c.requires.apart

pub append_runs-requires-clause-runs : goal.append_runs-requires-clause-runs
append_runs-requires-clause-runs c = subst (All IsRun) (sym c.requires.runs) (cut_runs c.args.blocks.now (λ i d low. let inside = c.requires.inside i d low in omega (arith, inside, c.len.ensures.image.size)))
