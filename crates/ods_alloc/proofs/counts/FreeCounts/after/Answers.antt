use Rattle.std.proofs.Common.{◌≡◌, ◌≤◌, ◌^◌, ◌∙◌, sym, subst, arith}
use Rattle.std.specs.List.{sum}
use Rattle.std.proofs.lemmas.List.{with_items_is}
use Rattle.ods_space.specs.Draft.{applied}
use Rattle.ods_space.proofs.Drafts.{length-applied}
use Rattle.ods_alloc.specs.declared.counting.Bitmap.TheVariants.{Storage, Index}
use Rattle.ods_alloc.specs.Counts.{clear_counts, free_counts}
use Rattle.ods_alloc.proofs.Counted.{free_few}
use Rattle.ods_alloc.proofs.Recounted.{counts_stay}
use Rattle.ods_alloc.proofs.counts.FreeCounts.after.Goals as goal

pub returns-then-index-index_end : goal.returns-then-index-index_end
returns-then-index-index_end c =
    let I = c.args.disk.now.image.now in
    let d = c.args.draft.now in
    let L = c.args.disk.now.layout.now in
    let blocks : free_counts (applied I d) L ≡ free_counts I L = counts_stay I d L Storage c.next_changed-storage.result (c.if-storage-storage_end.true ∙ c.size_of-storage_end.ensures.value) c.next_changed-storage.ensures in
    let numbers : clear_counts (applied I d) L.home ≡ clear_counts I L.home = counts_stay I d L Index c.next_changed-index.result (c.if-index-index_end.true ∙ c.size_of-index_end.ensures.value) c.next_changed-index.ensures in
    λ i. record { blocks = blocks i; numbers = numbers i }

pub invariant_of-result : goal.invariant_of-result
invariant_of-result c =
    let I = c.args.disk.now.image.now in
    let few = free_few (applied I c.args.draft.now) c.args.disk.now.layout.now in
    subst (λ xs. sum xs ≤ 2 ^ 20) (sym (with_items_is c.in_ok-blocks.blocks c.recount.new.counts (omega (arith, c.recount.ensures.size, c.deref_mut.ensures.len)) ∙ c.recount.ensures.counts))
    (omega (arith, few, length-applied I c.args.draft.now, c.len.ensures.image.size))
