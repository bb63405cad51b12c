use Rattle.std.proofs.Common.{ℕ, ◌*◌, ◌≤◌, sym, subst, arith}
use Rattle.ods_check.specs.Findings.{HasAsHeader}
use Rattle.ods_check.specs.Marks.{IsOfTwo}
use Rattle.ods_check.proofs.Noting.{files_none, set_none}
use Rattle.ods_check.proofs.SharedHeaders.{no_two, two_all}
use Rattle.ods_check.proofs.shared_headers.shared_headers.Goals as goal

pub loop-number-init : goal.loop-number-init
loop-number-init c = record {
  files = files_none (HasAsHeader c.args.disk.now.image.now c.args.disk.now.layout.now) c.in_ok-once.once c.in_ok-once.ensures.empty;
  two = set_none (IsOfTwo c.args.disk.now.image.now c.args.disk.now.layout.now 0) c.in_ok-twice.twice c.in_ok-twice.ensures.empty (no_two c.args.disk.now.image.now c.args.disk.now.layout.now);
  room = c.in_ok-once.ensures.room;
  same = c.in_ok-twice.ensures.room;
}

pub loop-number-preserved : goal.loop-number-preserved
loop-number-preserved c =
    let P : ℕ → Type 0 = λ l. 65536 ≤ 64 * l in
    record {
      files = c.in_ok-note_headers.ensures.once;
      two = c.in_ok-note_headers.ensures.twice;
      room = subst P (sym c.in_ok-note_headers.ensures.room) c.loop-number.invariant.room;
      same = subst P (sym c.in_ok-note_headers.ensures.same) c.loop-number.invariant.same;
    }

pub returns : goal.returns
returns c =
    let end = c.loop-number-test.false in
    let last = c.file_end-number-end.ensures.last in
    two_all c.args.disk.now.image.now c.args.disk.now.layout.now c.loop-number.number c.loop-number.twice (omega arith) c.loop-number.invariant.two
