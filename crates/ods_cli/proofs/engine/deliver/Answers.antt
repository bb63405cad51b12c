use Rattle.std.proofs.Common.{refl}
use Rattle.std.proofs.lemmas.Result.{err_from_is_err_and}
use Rattle.ods_cli.specs.Printed.{said_text}
use Rattle.ods_cli.specs.Serve.{wrote}
use Rattle.ods_cli.proofs.Serving.{cut_short, untouched}
use Rattle.ods_cli.proofs.engine.deliver.Goals as goal

pub returns-in_err-write_said-clause-ends : goal.returns-in_err-write_said-clause-ends
returns-in_err-write_said-clause-ends g c =
    let contents = g.W.Write.contents in
    let p = err_from_is_err_and c.from_residual.result c.from_residual.ensures.1 in
    rw (p.1, p.2)
    (cut_short c.args.said.report (said_text c.args.said) c.args.image.now (record { old = contents c.args.replies.now; new = contents c.write_said.new.writer })
    (wrote g.O.Write.contents c.args.out.now c.args.out.now) c.in_err-write_said.field-0.0 c.in_err-write_said.ensures.err (untouched g.O.Write.contents c.args.out.now))

pub returns-clause-ends : goal.returns-clause-ends
returns-clause-ends g c = (refl, c.in_ok-write_said.ensures.ok, c.in_ok-write_image.ensures.ok)
