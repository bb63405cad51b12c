use Rattle.std.proofs.Common.{sym}
use Rattle.ods_records.proofs.Forming.{no_parts, the_parts}
use Rattle.ods_records.proofs.forms.read_parts.Goals as goal

pub returns-in_err-rest : goal.returns-in_err-rest
returns-in_err-rest c = rw c.from_residual-in_err-rest.ensures (no_parts c.args.text.now c.in_ok-front.front.now c.in_ok-front.back.now c.in_ok-front.ensures.cut c.in_err-rest.ensures)

pub returns : goal.returns
returns c = the_parts c.args.text.now c.in_ok-front.front.now c.in_ok-front.back.now c.in_ok-kind.kind c.in_ok-rest.rest c.in_ok-front.ensures.cut (sym c.in_ok-kind.ensures) c.in_ok-rest.ensures
