use Rattle.std.proofs.Common.{ℕ, ◌*◌, ◌≤◌, length, sym, subst, arith}
use Rattle.ods_check.specs.HeldFree.{HoldsBesides}
use Rattle.ods_check.proofs.Noting.{files_none, files_more, files_all}
use Rattle.ods_check.proofs.held_list.blocks_held_besides.Goals as goal

pub loop-number-init : goal.loop-number-init
loop-number-init c =
    let I = c.args.disk.now.image.now in
    let L = c.args.disk.now.layout.now in
    let room = c.in_ok-held.ensures.room in
    let size = c.len.ensures.value in
    record {
      files = files_none (HoldsBesides I L c.args.file) c.in_ok-held.held c.in_ok-held.ensures.empty;
      room = omega arith;
    }

pub loop-number-preserved : goal.loop-number-preserved
loop-number-preserved c =
    let I = c.args.disk.now.image.now in
    let L = c.args.disk.now.layout.now in
    let same = c.in_ok-note_unless.ensures.room in
    let room = c.loop-number.invariant.room in
    record {
      files = files_more (HoldsBesides I L c.args.file) c.loop-number.number c.loop-number.held c.note_unless.new.held c.loop-number.invariant.files c.in_ok-note_unless.ensures.with;
      room = let P : ℕ → Type 0 = λ l. length I ≤ 64 * l in subst P (sym same) room;
    }

pub returns : goal.returns
returns c =
    let I = c.args.disk.now.image.now in
    let L = c.args.disk.now.layout.now in
    let end = c.loop-number-test.false in
    files_all (HoldsBesides I L c.args.file) c.loop-number.number c.loop-number.held (λ m b held. let low = c.file_end-number-end.ensures.files m held.1.1.file.file in omega arith) c.loop-number.invariant.files
