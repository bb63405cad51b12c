use Rattle.std.proofs.Common.{ℕ, List, sym, subst}
use Rattle.ods_base.specs.Image.{TookBytes}
use Rattle.ods_files.specs.Sending.{IsSending}
use Rattle.ods_files.proofs.Sends.{piece_sent, piece_broken}
use Rattle.ods_files.proofs.sending.make_room.Goals as goal

pub returns-in-Ok-clause-ok : goal.returns-in-Ok-clause-ok
returns-in-Ok-clause-ok g c start bytes at way =
    let contents = g.W.Write.contents in
    let P : List ℕ → Type 0 = λ piece. IsSending bytes start (contents c.args.writer.now) at c.args.before piece in
    let told = c.in-Ok.ensures.ok in
    let sent = piece_sent bytes start (contents c.args.writer.now) (contents c.write_piece.new.writer) at c.args.before c.deref.result.now (subst P (sym c.deref.ensures.0) way) told.1 in
    rw (c.clear.ensures, told.0) sent

pub returns-in-Err-clause-err : goal.returns-in-Err-clause-err
returns-in-Err-clause-err g c start bytes at way few =
    let contents = g.W.Write.contents in
    let P : List ℕ → Type 0 = λ piece. IsSending bytes start (contents c.args.writer.now) at c.args.before piece in
    let Q : ℕ → Type 0 = λ n. TookBytes start (contents c.write_piece.new.writer) bytes n in
    let told = c.in-Err.ensures.err in
    subst Q (sym told.2) (piece_broken bytes start (contents c.args.writer.now) (contents c.write_piece.new.writer) at c.args.before told.0 c.deref.result.now
    (subst P (sym c.deref.ensures.0) way) few told.1 told.3)
