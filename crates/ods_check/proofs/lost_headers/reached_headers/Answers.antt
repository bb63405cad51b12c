use Rattle.std.proofs.Common.{ℕ, ◌*◌, ◌≤◌, sym, subst, arith}
use Rattle.ods_check.specs.Findings.{HasAsHeader}
use Rattle.ods_check.proofs.Noting.{files_none, files_more, files_all}
use Rattle.ods_check.proofs.lost_headers.reached_headers.Goals as goal

pub loop-number-init : goal.loop-number-init
loop-number-init c = record {
  files = files_none (HasAsHeader c.args.disk.now.image.now c.args.disk.now.layout.now) c.in_ok-reached.reached c.in_ok-reached.ensures.empty;
  room = c.in_ok-reached.ensures.room;
}

pub loop-number-preserved : goal.loop-number-preserved
loop-number-preserved c =
    let P : ℕ → Type 0 = λ l. 65536 ≤ 64 * l in
    record {
      files = files_more (HasAsHeader c.args.disk.now.image.now c.args.disk.now.layout.now) c.loop-number.number c.loop-number.reached c.note_headers.new.reached c.loop-number.invariant.files c.note_headers.ensures.with;
      room = subst P (sym c.note_headers.ensures.room) c.loop-number.invariant.room;
    }

pub returns : goal.returns
returns c =
    let end = c.loop-number-test.false in
    files_all (HasAsHeader c.args.disk.now.image.now c.args.disk.now.layout.now) c.loop-number.number c.loop-number.reached
    (λ m b h. let low = c.file_end-number-end.ensures.files m h.1.file in omega arith) c.loop-number.invariant.files
