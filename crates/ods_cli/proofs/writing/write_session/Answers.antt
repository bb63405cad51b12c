use Rattle.std.specs.String.{string_bytes}
use Rattle.std.proofs.lemmas.Result.{err_from_is_err_and}
use Rattle.ods_cli.specs.Printed.{session_line}
use Rattle.ods_cli.proofs.Parts.{cut_first, cut_later}
use Rattle.ods_cli.proofs.writing.write_session.Goals as goal

pub returns-in_err-write_part-clause-err : goal.returns-in_err-write_part-clause-err
returns-in_err-write_part-clause-err g c =
    let contents = g.W.Write.contents in
    let p = err_from_is_err_and c.from_residual.result c.from_residual.ensures.1 in
    rw (p.1, p.2)
    (cut_first (contents c.args.writer.now) (contents c.write_part.new.writer) (session_line c.args.number) (string_bytes c.args.session.now.text)
    c.in_err-write_part.field-0.0 (rw c.line_of.ensures at c.in_err-write_part.ensures.err))

pub returns-clause-err : goal.returns-clause-err
returns-clause-err g c =
    let contents = g.W.Write.contents in
    cut_later c.write_part-2.result (contents c.args.writer.now) (contents c.write_part.new.writer) (contents c.write_part-2.new.writer)
    (session_line c.args.number) (string_bytes c.args.session.now.text)
    (rw c.line_of.ensures at c.in_ok-write_part.ensures.ok) (rw c.as_bytes.ensures.value at c.write_part-2.ensures.err)
