use Rattle.std.proofs.Common.{◌≡◌, ◌+◌, ◌-◌, ◌<◌, ap, ◌∙◌, subst, arith, replicate}
use Rattle.std.proofs.lemmas.Result.{err_from_is_err_and}
use Rattle.std.specs.Prelude.{slice_set}
use Rattle.ods_mount.specs.Sound.{IsSoundBy}
use Rattle.ods_request.specs.declared.requests.Request.TheVariants.{Write}
use Rattle.ods_space.specs.Layout.{Disk}
use Rattle.ods_request.specs.Catalogue.{Plain}
use Rattle.ods_filing.specs.Filed.{disk_at}
use Rattle.ods_filing.specs.Put.{IsAdded, block_count, so_far}
use Rattle.ods_filing.proofs.Added.{wrote}
use Rattle.ods_filing.proofs.Blocks.{one_more, all_so_far}
use Rattle.ods_filing.proofs.InOnePiece.{nothing_moves_blocks, writing_stops}
use Rattle.ods_filing.proofs.Led.{then_obeyed}
use Rattle.ods_filing.proofs.Parts.{filling_stops}
use Rattle.ods_filing.proofs.put.fill.Goals as goal

pub loop-k-preserved : goal.loop-k-preserved
loop-k-preserved c =
    let next = c.obey.new.filing in
    let bytes = c.args.bytes.now in
    let k = c.loop-k.k in
    let block = c.block_of.result in
    let before = so_far bytes (block_count bytes) k in
    let done = c.in_ok-obey.ensures.ok in
    let under : k < block_count bytes = omega (arith, c.loop-k-test.true, c.blocks_for-k-end.ensures) in
    let at : k + 1 - 1 ≡ k = omega arith in
    let sound = subst (λ (d : Disk). IsSoundBy d.image d.layout) (λ i. record { image = c.disk.ensures.image i; layout = c.disk.ensures.layout i }) c.disk.ensures.sound in
    let filled : slice_set before (k + 1 - 1) block ≡ so_far bytes (block_count bytes) (k + 1) =
    (λ i. slice_set before (at i) (c.block_of.ensures i)) ∙ one_more bytes (block_count bytes) k under in (
      λ old heading start.
          subst (λ bs. IsAdded old heading c.args.id (Plain (replicate 32 0) bs) next) filled
          (wrote old c.loop-k.filing next heading c.args.id done.0 (k + 1) block (replicate 32 0) before (c.loop-k.invariant.0 old heading start) done.1),
      then_obeyed (Write c.args.id (k + 1) block) tt c.loop-k.invariant.1 done,
      λ n blocks has. nothing_moves_blocks (disk_at c.loop-k.filing) (disk_at next) done.1.moves done.1.elsewhere.0 sound n blocks (c.loop-k.invariant.2 n blocks has),
    )

pub returns-clause-ok : goal.returns-clause-ok
returns-clause-ok c = λ old heading start.
    let bytes = c.args.bytes.now in
    let at : c.loop-k.k ≡ block_count bytes = omega (arith, c.loop-k.auto.k-end, c.loop-k-test.false, c.blocks_for-k-end.ensures) in
    subst (λ bs. IsAdded old heading c.args.id (Plain (replicate 32 0) bs) c.loop-k.filing)
    (ap (so_far bytes (block_count bytes)) at ∙ all_so_far bytes) (c.loop-k.invariant.0 old heading start)

pub returns-clause-led : goal.returns-clause-led
returns-clause-led c = c.loop-k.invariant.1

pub returns-clause-kept : goal.returns-clause-kept
returns-clause-kept c = c.loop-k.invariant.2

pub returns-in_err-obey-clause-stops : goal.returns-in_err-obey-clause-stops
returns-in_err-obey-clause-stops c =
    let p = err_from_is_err_and c.from_residual.result c.from_residual.ensures.1 in
    let under : c.loop-k.k < block_count c.args.bytes.now = omega (arith, c.loop-k-test.true, c.blocks_for-k-end.ensures) in
    rw (p.1, p.2) (writing_stops c.args.id c.args.bytes.now c.block_of.result c.loop-k.k c.args.filing.now c.loop-k.filing c.obey.new.filing under c.loop-k.invariant.0 c.block_of.ensures
    c.in_err-obey.ensures.unchanged _ c.in_err-obey.ensures.err)

pub returns-in_err-obey-clause-err : goal.returns-in_err-obey-clause-err
returns-in_err-obey-clause-err c =
    let p = err_from_is_err_and c.from_residual.result c.from_residual.ensures.1 in
    let under : c.loop-k.k < block_count c.args.bytes.now = omega (arith, c.loop-k-test.true, c.blocks_for-k-end.ensures) in
    rw (p.1, p.2) (filling_stops c.args.id c.args.bytes.now c.block_of.result c.loop-k.k c.args.filing.now c.loop-k.filing c.obey.new.filing under c.loop-k.invariant.0 c.loop-k.invariant.1 c.block_of.ensures
    c.in_err-obey.ensures.unchanged _ c.in_err-obey.ensures.err)
