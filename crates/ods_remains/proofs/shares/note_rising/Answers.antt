use Rattle.std.proofs.Common.{◌≤◌, ◌∙◌, refl, arith}
use Rattle.ods_remains.proofs.Sharing.{low_begun, low_step, low_ended, seen_any}
use Rattle.ods_remains.proofs.shares.note_rising.Goals as goal

pub loop-before-init : goal.loop-before-init
loop-before-init c =
    let D = c.args.disk.now in
    (refl, low_begun D.image.now D.layout.now c.args.table.now c.args.seen.now c.requires.zeros c.requires.unseen)

pub note_file-requires : goal.note_file-requires
note_file-requires c =
    let D = c.args.disk.now in
    seen_any D.image.now D.layout.now (λ n. n ≤ c.loop-before.before) (λ m n. m ≤ n) c.loop-before.seen c.loop-before.invariant.1.met

pub loop-before-preserved : goal.loop-before-preserved
loop-before-preserved c =
    let D = c.args.disk.now in
    let on = low_step D.image.now D.layout.now c.loop-before.before c.loop-before.table c.loop-before.seen c.note_file.new.table c.note_file.new.seen c.loop-before.invariant.1 c.in_ok-note_file.ensures in
    (on.0 ∙ c.loop-before.invariant.0, on.1)

pub returns-clause-first : goal.returns-clause-first
returns-clause-first c =
    let D = c.args.disk.now in
    let end = c.last_number-before-end.ensures in
    let past = c.loop-before-test.false in
    low_ended D.image.now D.layout.now c.loop-before.before (omega (arith, end, past)) c.loop-before.table c.loop-before.seen c.loop-before.invariant.1
