use Rattle.std.specs.String.{string_bytes}
use Rattle.ods_cli.specs.Printed.{printed_text}
use Rattle.ods_cli.proofs.Parts.{cut_later}
use Rattle.ods_cli.proofs.writing.write_said.Goals as goal

pub returns-clause-err : goal.returns-clause-err
returns-clause-err g c =
    let contents = g.W.Write.contents in
    cut_later c.write_part.result (contents c.args.writer.now) (contents c.write_sessions.new.writer) (contents c.write_part.new.writer)
    (printed_text 1 c.args.said.now.printed.items) (string_bytes c.args.said.now.totals)
    (rw c.as_slice.ensures.value at c.in_ok-write_sessions.ensures.ok) (rw c.as_bytes.ensures.value at c.write_part.ensures.err)
