use Rattle.std.proofs.Common.{◌+◌, length, ap, arith}
use Rattle.std.proofs.lemmas.Result.{err_from_is_err_and}
use Rattle.ods_cli.specs.Printed.{printed_session, printed_text}
use Rattle.ods_cli.proofs.Parts.{less_left, part_cut}
use Rattle.ods_cli.proofs.writing.write_sessions.Goals as goal

pub returns-in_err-write_session-clause-err : goal.returns-in_err-write_session-clause-err
returns-in_err-write_session-clause-err g c =
    let contents = g.W.Write.contents in
    let whole = printed_text 1 c.args.sessions.now in
    let number = c.loop-session.number in
    let p = err_from_is_err_and c.from_residual.result c.from_residual.ensures.1 in
    rw (p.1, p.2)
    (part_cut whole (contents c.args.writer.now) (contents c.loop-session.writer) (contents c.write_session.new.writer)
    (printed_session number c.in-Some.session.now) (printed_text (number + 1) c.in-Some.later.now) c.in_err-write_session.field-0.0
    (rw c.in-Some.ensures.cases.0 at c.loop-session.invariant.sent) c.in_err-write_session.ensures.err)

pub loop-session-preserved : goal.loop-session-preserved
loop-session-preserved g c =
    let contents = g.W.Write.contents in
    let whole = printed_text 1 c.args.sessions.now in
    let number = c.loop-session.number in
    let length_is = ap length c.in-Some.ensures.cases.0 in
    record {
      few = omega (arith, length_is, c.loop-session.invariant.few);
      sent = less_left whole (contents c.args.writer.now) (contents c.loop-session.writer) (contents c.write_session.new.writer)
          (printed_session number c.in-Some.session.now) (printed_text (number + 1) c.in-Some.later.now)
          (rw c.in-Some.ensures.cases.0 at c.loop-session.invariant.sent) c.in_ok-write_session.ensures.ok;
    }
