use Rattle.std.proofs.Common.{◌≡◌, ℕ, ◌+◌, ◌<◌, ◌≤◌, List, length, sym, ap, ◌∙◌, subst, arith}
use Rattle.std.proofs.lemmas.Bool.{eqb-false}
use Rattle.std.proofs.lemmas.List.{take_all}
use Rattle.std.proofs.lemmas.Result.{err_from_is_err_and}
use Rattle.std.proofs.KnownBytes.{Appends-nil}
use Rattle.std.specs.Io.KnownBytes.{Appends}
use Rattle.std.specs.List.{concat}
use Rattle.ods_base.proofs.Images.{length-concat}
use Rattle.ods_base.proofs.Sending.{IsUnderWay, not_begun, one_more_held, takes_on, takes_all, all_sent}
use Rattle.ods_base.proofs.image.Image.write_to.Goals as goal
use Rattle.ods_base.proofs.image.Image.write_to.Goals.{then-is_full+in_ok-written, else-is_full}

pub loop-lbn-init : goal.loop-lbn-init
loop-lbn-init g c =
    let P : List ℕ → Type 0 = λ piece. IsUnderWay c.args.self.now 0 0 piece in
    record {
      way = subst P (sym c.new-piece.ensures) (not_begun c.args.self.now);
      room = rw c.new-piece.ensures (omega arith);
      sent = Appends-nil (g.W.Write.contents c.args.writer.now);
    }

pub hold_back-requires : goal.hold_back-requires
hold_back-requires g c = omega (arith, c.loop-lbn.invariant.way.blocks, c.loop-lbn.invariant.room)

pub write_piece-requires : goal.write_piece-requires
write_piece-requires g c =
    let image = c.len-lbn-end.ensures.image in
    let size = c.len-lbn-end.ensures.value in
    let inside : c.loop-lbn.lbn < length c.args.self.now = omega (arith, size, c.loop-lbn-test.true) in
    let way = one_more_held c.args.self.now c.loop-lbn.lbn c.loop-lbn.written c.loop-lbn.piece.items c.block.result.now c.hold_back.new.piece.items
    image.blocks inside c.block.ensures.value c.hold_back.ensures c.loop-lbn.invariant.way in
    let size : length c.deref.result.now ≡ length c.hold_back.new.piece.items = ap length c.deref.ensures.0 in
    let count = way.count in
    omega (arith, image.size, inside)

pub loop-lbn-preserved : goal.loop-lbn-preserved
loop-lbn-preserved g c =
    let image = c.len-lbn-end.ensures.image in
    let size = c.len-lbn-end.ensures.value in
    let inside : c.loop-lbn.lbn < length c.args.self.now = omega (arith, size, c.loop-lbn-test.true) in
    let way = one_more_held c.args.self.now c.loop-lbn.lbn c.loop-lbn.written c.loop-lbn.piece.items c.block.result.now c.hold_back.new.piece.items
    image.blocks inside c.block.ensures.value c.hold_back.ensures c.loop-lbn.invariant.way in
    elim c.if-is_full.branch [
      | then-is_full+in_ok-written w ↦
          let P : List ℕ → Type 0 = λ piece. IsUnderWay c.args.self.now (c.loop-lbn.lbn + 1) c.loop-lbn.written piece in
          let sent_piece : IsUnderWay c.args.self.now (c.loop-lbn.lbn + 1) c.loop-lbn.written w.deref.result.now = subst P (sym w.deref.ensures.0) way in
          let contents = g.W.Write.contents in
          let told = w.in_ok-written.ensures.ok in
          let sent = takes_all c.args.self.now (c.loop-lbn.lbn + 1) c.loop-lbn.written w.deref.result.now (contents c.args.writer.now) (contents c.loop-lbn.writer) (contents w.write_piece.new.writer)
          sent_piece c.loop-lbn.invariant.sent told.1 in
          rw (w.piece-is, w.written-is, w.writer-is, w.clear.ensures, told.0) (record { way = all_sent c.args.self.now (c.loop-lbn.lbn + 1) c.loop-lbn.written w.deref.result.now sent_piece; room = omega arith; sent = sent })
      | else-is_full w ↦
          let not_full : length c.hold_back.new.piece.items ≡ 65536 → ⊥ = eqb-false _ _ (sym c.is_full.ensures.value ∙ w.if-is_full.false) in
          let fits = c.is_full.ensures.fits in
          rw (w.piece-is, w.written-is, w.writer-is) (record { way = way; room = omega arith; sent = c.loop-lbn.invariant.sent })
    ]

pub returns-in_err-written-clause-err : goal.returns-in_err-written-clause-err
returns-in_err-written-clause-err g c =
    let image = c.len-lbn-end.ensures.image in
    let size = c.len-lbn-end.ensures.value in
    let inside : c.loop-lbn.lbn < length c.args.self.now = omega (arith, size, c.loop-lbn-test.true) in
    let way = one_more_held c.args.self.now c.loop-lbn.lbn c.loop-lbn.written c.loop-lbn.piece.items c.block.result.now c.hold_back.new.piece.items
    image.blocks inside c.block.ensures.value c.hold_back.ensures c.loop-lbn.invariant.way in
    let P : List ℕ → Type 0 = λ piece. IsUnderWay c.args.self.now (c.loop-lbn.lbn + 1) c.loop-lbn.written piece in
    let sent_piece : IsUnderWay c.args.self.now (c.loop-lbn.lbn + 1) c.loop-lbn.written c.deref.result.now = subst P (sym c.deref.ensures.0) way in
    let within : c.loop-lbn.lbn + 1 ≤ length c.args.self.now = omega (arith, inside) in
    let contents = g.W.Write.contents in
    let told = c.in_err-written.ensures.err in
    let sent = takes_on c.args.self.now (c.loop-lbn.lbn + 1) c.loop-lbn.written told.0 c.deref.result.now (contents c.args.writer.now) (contents c.loop-lbn.writer) (contents c.write_piece.new.writer)
    image.blocks within sent_piece told.1 c.loop-lbn.invariant.sent told.3 in
    let p = err_from_is_err_and c.from_residual.result c.from_residual.ensures.1 in
    rw (p.1, p.2, told.2) (sent.1, sent.0)

pub returns-in_err-write_piece-clause-err : goal.returns-in_err-write_piece-clause-err
returns-in_err-write_piece-clause-err g c =
    let image = c.len-lbn-end.ensures.image in
    let size = c.len-lbn-end.ensures.value in
    let P : List ℕ → Type 0 = λ piece. IsUnderWay c.args.self.now c.loop-lbn.lbn c.loop-lbn.written piece in
    let sent_piece : IsUnderWay c.args.self.now c.loop-lbn.lbn c.loop-lbn.written c.deref-2.result.now = subst P (sym c.deref-2.ensures.0) c.loop-lbn.invariant.way in
    let within : c.loop-lbn.lbn ≤ length c.args.self.now = omega (arith, size, c.loop-lbn.auto.lbn-end) in
    let contents = g.W.Write.contents in
    let told = c.in_err-write_piece.ensures.err in
    let sent = takes_on c.args.self.now c.loop-lbn.lbn c.loop-lbn.written told.0 c.deref-2.result.now (contents c.args.writer.now) (contents c.loop-lbn.writer) (contents c.write_piece-2.new.writer)
    image.blocks within sent_piece told.1 c.loop-lbn.invariant.sent told.3 in
    let p = err_from_is_err_and c.from_residual-in_err-write_piece.result c.from_residual-in_err-write_piece.ensures.1 in
    rw (p.1, p.2, told.2) (sent.1, sent.0)

pub returns-clause-ok : goal.returns-clause-ok
returns-clause-ok g c =
    let image = c.len-lbn-end.ensures.image in
    let size = c.len-lbn-end.ensures.value in
    let P : List ℕ → Type 0 = λ piece. IsUnderWay c.args.self.now c.loop-lbn.lbn c.loop-lbn.written piece in
    let sent_piece : IsUnderWay c.args.self.now c.loop-lbn.lbn c.loop-lbn.written c.deref-2.result.now = subst P (sym c.deref-2.ensures.0) c.loop-lbn.invariant.way in
    let count = sent_piece.count in
    let contents = g.W.Write.contents in
    let Q : List ℕ → Type 0 = λ bytes. Appends (contents c.args.writer.now) (contents c.write_piece-2.new.writer) bytes in
    let end : c.loop-lbn.lbn ≡ length c.args.self.now = omega (arith, size, c.loop-lbn.auto.lbn-end, c.loop-lbn-test.false) in
    let all : length (concat c.args.self.now) ≤ c.loop-lbn.written + length c.deref-2.result.now = omega (arith, length-concat c.args.self.now image.blocks) in
    subst Q (take_all (c.loop-lbn.written + length c.deref-2.result.now) (concat c.args.self.now) all)
    (takes_all c.args.self.now c.loop-lbn.lbn c.loop-lbn.written c.deref-2.result.now (contents c.args.writer.now) (contents c.loop-lbn.writer) (contents c.write_piece-2.new.writer)
    sent_piece c.loop-lbn.invariant.sent c.in_ok-write_piece.ensures.ok.1)
