use Rattle.std.proofs.Common.{◌≡◌, ◌*◌, ◌<◌, ◌++◌, min, length, take, sym, ap, ◌∙◌, arith, append_assoc}
use Rattle.ods_base.specs.Image.{image_bytes}
use Rattle.ods_files.specs.Body.{padded}
use Rattle.ods_files.proofs.FirstBytes.{next_at}
use Rattle.ods_files.proofs.sending.push_first.Goals as goal

pub loop-k-preserved : goal.loop-k-preserved
loop-k-preserved c =
    let bytes = take c.args.size (image_bytes (padded c.args.image.now c.args.lbns.now)) in
    let at = min (512 * c.loop-k.k) c.args.size in
    let part = take c.min-count.result c.block_or_zeros-block.result.now in
    let small : c.loop-k.k < length c.args.lbns.now = omega (arith, c.loop-k-test.true, c.div_ceil-k-end.ensures, c.requires.size) in
    let under : 512 * c.loop-k.k < c.args.size = omega (arith, c.loop-k-test.true, c.div_ceil-k-end.ensures) in
    let next = next_at c.args.image.now c.args.lbns.now c.loop-k.k 0 c.args.size c.min-count.result c.block_or_zeros-block.result.now c.len.ensures.image.blocks small under
    (omega (arith, c.min-count.ensures)) c.block_or_zeros-block.ensures in
    let grown : c.extend_from_slice.new.self.items ≡ c.loop-k.bytes.items ++ part =
    c.in_ok-extend_from_slice.ensures.items ∙ ap (λ b. c.loop-k.bytes.items ++ take c.min-count.result b) c.bytes.ensures.value in
    grown ∙ ap (λ l. l ++ part) c.loop-k.invariant ∙ append_assoc c.args.bytes.now.items (take at bytes) part
    ∙ ap (λ l. c.args.bytes.now.items ++ l) (sym next.0 ∙ ap (λ n. take n bytes) next.1)
