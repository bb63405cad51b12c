use Rattle.std.proofs.Common.{◌≡◌, ◌-◌, ◌<◌, ◌≤◌, ◌∙◌, refl, sym, subst, arith}
use Rattle.ods_space.specs.Layout.{last_number}
use Rattle.ods_remains.proofs.Sharing.{high_begun, high_step, high_ended, notes, seen_any}
use Rattle.ods_remains.proofs.shares.note_falling.Goals as goal

pub loop-done-init : goal.loop-done-init
loop-done-init c =
    let D = c.args.disk.now in
    (refl, high_begun D.image.now D.layout.now c.args.table.now c.args.seen.now c.requires.zeros c.requires.unseen)

pub note_file-requires : goal.note_file-requires
note_file-requires c =
    let D = c.args.disk.now in
    seen_any D.image.now D.layout.now (λ n. last_number D.layout.now - c.loop-done.done < n) (λ m n. n ≤ m) c.loop-done.seen c.loop-done.invariant.1.met

pub loop-done-preserved : goal.loop-done-preserved
loop-done-preserved c =
    let D = c.args.disk.now in
    let end = c.last_number-last.ensures in
    let more = c.loop-done-test.true in
    let done = c.loop-done.done in
    let noted = subst (λ k. notes D.image.now D.layout.now (k - done) c.loop-done.table c.loop-done.seen c.note_file.new.table c.note_file.new.seen) end c.in_ok-note_file.ensures in
    let on = high_step D.image.now D.layout.now (last_number D.layout.now) done (omega (arith, end, more)) c.loop-done.table c.loop-done.seen c.note_file.new.table c.note_file.new.seen c.loop-done.invariant.1 noted in
    (on.0 ∙ c.loop-done.invariant.0, on.1)

pub returns-clause-first : goal.returns-clause-first
returns-clause-first c =
    let D = c.args.disk.now in
    let end = c.last_number-last.ensures in
    let past = c.loop-done-test.false in
    high_ended D.image.now D.layout.now (last_number D.layout.now) c.loop-done.done (omega (arith, end, past)) c.loop-done.table c.loop-done.seen c.loop-done.invariant.1
