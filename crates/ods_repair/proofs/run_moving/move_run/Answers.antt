use Rattle.std.proofs.Common.{◌≡◌, ◌≢◌, ℕ, ◌+◌, ◌/◌, ◌^◌, ◌<◌, ◌≤◌, ◌∙◌, Bool, true, false, length, None, Some, ap, sym, subst, arith}
use Rattle.std.specs.List.{range_with_len}
use Rattle.ods_header.specs.declared.header.Run.{Run}
use Rattle.ods_header.specs.Header.{IsLaidOut, used_words_of}
use Rattle.ods_base.specs.Image.{block_at}
use Rattle.ods_space.specs.Layout.{place_of}
use Rattle.ods_alloc.specs.Marks.{MarksBlocks}
use Rattle.ods_repair.specs.Moved.{IsCopied, IsMoved, run_named}
use Rattle.ods_repair.specs.Repointed.{IsRepointed}
use Rattle.ods_repair.proofs.MovedRun.{header_read, is_moved, pointer_inside, run_is}
use Rattle.ods_repair.proofs.OwnRun.{new_inside, place_inside, run_inside, runs_apart}
use Rattle.ods_repair.proofs.run_moving.move_run.Goals as goal

pub block-requires : goal.block-requires
block-requires c = place_inside c.args.image.now c.args.layout.now c.args.file c.args.at c.requires.can c.requires.inside c.in-Some.place (sym c.place.ensures ∙ c.in-Some.is)

pub pointer_at-run-requires-clause-layout : goal.pointer_at-run-requires-clause-layout
pointer_at-run-requires-clause-layout c =
    subst IsLaidOut (header_read c.args.image.now c.args.layout.now c.args.file c.args.at c.in-Some.place c.block.result.now (sym c.place.ensures ∙ c.in-Some.is) c.block.ensures.value c.requires.inside)
    c.requires.can.has.file.valid.header.layout

pub pointer_at-run-requires-clause-inside : goal.pointer_at-run-requires-clause-inside
pointer_at-run-requires-clause-inside c =
    pointer_inside c.args.image.now c.args.layout.now c.args.file c.args.at c.in-Some.place c.block.result.now (sym c.place.ensures ∙ c.in-Some.is) c.block.ensures.value c.requires.inside

pub copy_blocks-requires-clause-inside : goal.copy_blocks-requires-clause-inside
copy_blocks-requires-clause-inside c =
    let I = c.args.image.now in
    let run = run_is I c.args.layout.now c.args.file c.args.at c.in-Some.place c.block.result.now (sym c.place.ensures ∙ c.in-Some.is) c.block.ensures.value c.requires.inside c.pointer_at-run.result c.pointer_at-run.ensures.value in
    subst (λ (r : Run). r.lbn + r.count ≤ length I) run (run_inside I c.args.layout.now c.args.file c.args.at c.requires.can c.requires.inside)

pub copy_blocks-requires-clause-room : goal.copy_blocks-requires-clause-room
copy_blocks-requires-clause-room c =
    let I = c.args.image.now in
    let run = run_is I c.args.layout.now c.args.file c.args.at c.in-Some.place c.block.result.now (sym c.place.ensures ∙ c.in-Some.is) c.block.ensures.value c.requires.inside c.pointer_at-run.result c.pointer_at-run.ensures.value in
    subst (λ (r : Run). c.args.to + r.count ≤ length I) run (new_inside I c.args.layout.now c.args.file c.args.at c.requires.can c.requires.inside c.args.to c.requires.free)

pub copy_blocks-requires-clause-apart : goal.copy_blocks-requires-clause-apart
copy_blocks-requires-clause-apart c =
    let I = c.args.image.now in
    let run = run_is I c.args.layout.now c.args.file c.args.at c.in-Some.place c.block.result.now (sym c.place.ensures ∙ c.in-Some.is) c.block.ensures.value c.requires.inside c.pointer_at-run.result c.pointer_at-run.ensures.value in
    subst (λ (r : Run). (k j : ℕ) → k < r.count → j < r.count → c.args.to + k ≢ r.lbn + j) run (runs_apart I c.args.layout.now c.args.file c.args.at c.requires.can c.requires.inside c.args.to c.requires.free)

pub mark_blocks-requires-clause-room : goal.mark_blocks-requires-clause-room
mark_blocks-requires-clause-room c =
    let I = c.args.image.now in
    let run = run_is I c.args.layout.now c.args.file c.args.at c.in-Some.place c.block.result.now (sym c.place.ensures ∙ c.in-Some.is) c.block.ensures.value c.requires.inside c.pointer_at-run.result c.pointer_at-run.ensures.value in
    let room = subst (λ (r : Run). c.args.to + r.count ≤ length I) run (new_inside I c.args.layout.now c.args.file c.args.at c.requires.can c.requires.inside c.args.to c.requires.free) in
    subst (λ k. c.args.to + c.pointer_at-run.result.count ≤ k) (sym c.copy_blocks.ensures.long) room

pub mark_blocks-requires-clause-inside : goal.mark_blocks-requires-clause-inside
mark_blocks-requires-clause-inside c =
    subst (λ n. (j : ℕ) (d : ℕ) → j < length c.args.layout.now.bitmap → Rattle.std.proofs.Common.get_or c.args.layout.now.bitmap j d < n) (sym c.copy_blocks.ensures.long) c.requires.can.layout.bitmap.whole.inside

pub mark_blocks-requires-clause-once : goal.mark_blocks-requires-clause-once
mark_blocks-requires-clause-once c = c.requires.can.bitmap.once

pub repointed-requires-clause-layout : goal.repointed-requires-clause-layout
repointed-requires-clause-layout c =
    subst IsLaidOut (header_read c.args.image.now c.args.layout.now c.args.file c.args.at c.in-Some.place c.block.result.now (sym c.place.ensures ∙ c.in-Some.is) c.block.ensures.value c.requires.inside)
    c.requires.can.has.file.valid.header.layout

pub repointed-requires-clause-inside : goal.repointed-requires-clause-inside
repointed-requires-clause-inside c =
    subst (λ b. c.args.at < used_words_of b / 2) (header_read c.args.image.now c.args.layout.now c.args.file c.args.at c.in-Some.place c.block.result.now (sym c.place.ensures ∙ c.in-Some.is) c.block.ensures.value c.requires.inside)
    c.requires.inside

pub repointed-requires-clause-small : goal.repointed-requires-clause-small
repointed-requires-clause-small c =
    let room = new_inside c.args.image.now c.args.layout.now c.args.file c.args.at c.requires.can c.requires.inside c.args.to c.requires.free in
    let size = c.len.ensures.image.size in
    omega (arith, room, size)

pub set_block-requires : goal.set_block-requires
set_block-requires c =
    let inside = place_inside c.args.image.now c.args.layout.now c.args.file c.args.at c.requires.can c.requires.inside c.in-Some.place (sym c.place.ensures ∙ c.in-Some.is) in
    let p = c.copy_blocks.ensures.long in
    let q = c.mark_blocks.ensures.size in
    omega (arith, inside, p, q)

pub returns : goal.returns
returns c =
    let I = c.args.image.now in
    let L = c.args.layout.now in
    let stands : place_of L c.args.file ≡ Some c.in-Some.place = sym c.place.ensures ∙ c.in-Some.is in
    let run = run_is I L c.args.file c.args.at c.in-Some.place c.block.result.now stands c.block.ensures.value c.requires.inside c.pointer_at-run.result c.pointer_at-run.ensures.value in
    let copied : IsCopied I (run_named I L c.args.file c.args.at).lbn c.args.to (run_named I L c.args.file c.args.at).count c.copy_blocks.new.image =
    subst (λ (r : Run). IsCopied I r.lbn c.args.to r.count c.copy_blocks.new.image) (sym run) c.copy_blocks.ensures in
    let marked : MarksBlocks c.copy_blocks.new.image L (range_with_len c.args.to (run_named I L c.args.file c.args.at).count) false c.mark_blocks.new.image =
    subst (λ (r : Run). MarksBlocks c.copy_blocks.new.image L (range_with_len c.args.to r.count) false c.mark_blocks.new.image) (sym run) c.mark_blocks.ensures in
    let led : IsRepointed (block_at I c.in-Some.place) c.args.at c.args.to c.repointed.result = subst (λ b. IsRepointed b c.args.at c.args.to c.repointed.result) c.block.ensures.value c.repointed.ensures in
    subst (IsMoved I L c.args.file c.args.at c.args.to) (sym c.set_block.ensures)
    (is_moved I c.copy_blocks.new.image c.mark_blocks.new.image L c.args.file c.args.at c.args.to c.in-Some.place c.repointed.result c.requires.can c.requires.inside c.requires.free stands
    (place_inside I L c.args.file c.args.at c.requires.can c.requires.inside c.in-Some.place stands) copied marked led)
