use Rattle.std.proofs.Common.{ℕ, ◌*◌, ◌<◌, ◌≤◌, min, List, length, take, sym, subst, arith}
use Rattle.ods_base.specs.Image.{image_bytes, TookBytes}
use Rattle.ods_files.specs.Body.{padded}
use Rattle.ods_files.specs.Sending.{IsSending}
use Rattle.ods_files.proofs.Sends.{piece_broken}
use Rattle.ods_files.proofs.FirstBytes.{sized, next_at}
use Rattle.ods_files.proofs.sending.send_first.Goals as goal

pub returns-in-Err-clause-err : goal.returns-in-Err-clause-err
returns-in-Err-clause-err g c =
    let bytes = take c.args.size (image_bytes (padded c.args.image.now c.args.lbns.now)) in
    let long = sized c.args.image.now c.args.lbns.now c.args.size c.len.ensures.image.blocks c.requires.size in
    let few : min (512 * c.loop-k.k) c.args.size ≤ length bytes = omega (arith, long) in
    c.in-Err.ensures.err (g.W.Write.contents c.args.writer.now) bytes (min (512 * c.loop-k.k) c.args.size) c.loop-k.invariant few

pub loop-k-preserved : goal.loop-k-preserved
loop-k-preserved g c =
    let bytes = take c.args.size (image_bytes (padded c.args.image.now c.args.lbns.now)) in
    let small : c.loop-k.k < length c.args.lbns.now = omega (arith, c.loop-k-test.true, c.div_ceil-k-end.ensures, c.requires.size) in
    let under : 512 * c.loop-k.k < c.args.size = omega (arith, c.loop-k-test.true, c.div_ceil-k-end.ensures) in
    let next = next_at c.args.image.now c.args.lbns.now c.loop-k.k 0 c.args.size c.min-count.result c.block_or_zeros.result.now c.len.ensures.image.blocks small under
    (omega (arith, c.min-count.ensures)) c.block_or_zeros.ensures in
    let P : ℕ → Type 0 = λ n. IsSending bytes (g.W.Write.contents c.args.writer.now) (g.W.Write.contents c.send_on.new.writer) n c.in-Ok.after c.send_on.new.piece.items in
    subst P next.1 (c.in-Ok.ensures.ok (g.W.Write.contents c.args.writer.now) bytes (min (512 * c.loop-k.k) c.args.size) c.loop-k.invariant next.0)

pub returns-in-Err-write_piece-clause-err : goal.returns-in-Err-write_piece-clause-err
returns-in-Err-write_piece-clause-err g c =
    let contents = g.W.Write.contents in
    let bytes = take c.args.size (image_bytes (padded c.args.image.now c.args.lbns.now)) in
    let long = sized c.args.image.now c.args.lbns.now c.args.size c.len.ensures.image.blocks c.requires.size in
    let few : min (512 * c.loop-k.k) c.args.size ≤ length bytes = omega (arith, long) in
    let P : List ℕ → Type 0 = λ piece. IsSending bytes (contents c.args.writer.now) (contents c.loop-k.writer) (min (512 * c.loop-k.k) c.args.size) c.loop-k.written piece in
    let Q : ℕ → Type 0 = λ n. TookBytes (contents c.args.writer.now) (contents c.write_piece.new.writer) bytes n in
    let told = c.in-Err-write_piece.ensures.err in
    subst Q (sym told.2) (piece_broken bytes (contents c.args.writer.now) (contents c.loop-k.writer) (contents c.write_piece.new.writer) (min (512 * c.loop-k.k) c.args.size) c.loop-k.written told.0 c.deref.result.now
    (subst P (sym c.deref.ensures.0) c.loop-k.invariant) few told.1 told.3)
