use Rattle.std.specs.String.{string_bytes}
use Rattle.std.proofs.lemmas.Result.{err_from_is_err_and}
use Rattle.ods_cli.specs.Printed.{said_text}
use Rattle.ods_cli.specs.Serve.{wrote}
use Rattle.ods_cli.specs.declared.fault.ServeFault.TheVariants.{NoMemory}
use Rattle.ods_cli.proofs.Serving.{delivered, failed, turned_away, untouched, within}
use Rattle.ods_cli.proofs.engine.serve.Goals as goal

pub returns-in_err-said-in-Ok-clause-ends : goal.returns-in_err-said-in-Ok-clause-ends
returns-in_err-said-in-Ok-clause-ends g c =
    let told = rw c.in-Ok.is at c.in_ok-mounted.ensures in
    let p = err_from_is_err_and c.from_residual-in_err-said-in-Ok.result c.from_residual-in_err-said-in-Ok.ensures.1 in (
      told.0,
      told.1,
      rw (p.1, p.2)
          (failed c.args.options.stamp c.args.scripts.now c.args.options.limit told.0 (g.I.Read.remaining c.sound_image.new.reader) (g.W.Write.contents c.args.replies.now)
          (wrote g.O.Write.contents c.args.out.now c.args.out.now) c.in-Ok.mounted.image NoMemory told.2 tt (untouched g.O.Write.contents c.args.out.now)),
    )

pub returns-then-is_empty-clause-ends : goal.returns-then-is_empty-clause-ends
returns-then-is_empty-clause-ends g c =
    let told = rw c.in-Ok.is at c.in_ok-mounted.ensures in
    let said = c.in_ok-said-in-Ok.said in (
      told.0,
      told.1,
      delivered c.args.options.stamp c.args.scripts.now c.args.options.limit told.0 (g.I.Read.remaining c.sound_image.new.reader)
          (record { old = g.W.Write.contents c.args.replies.now; new = g.W.Write.contents c.deliver.new.replies }) (wrote g.O.Write.contents c.args.out.now c.deliver.new.out)
          c.in-Ok.mounted.image c.in-Ok.mounted.image said.report (said_text said) c.deliver.result told.2 (c.in_ok-said-in-Ok.ensures.served c.args.options.stamp c.args.options.limit)
          (rw c.image.ensures.value at c.deliver.ensures.ends),
    )

pub returns-in_err-served-in-Ok-clause-ends : goal.returns-in_err-served-in-Ok-clause-ends
returns-in_err-served-in-Ok-clause-ends g c =
    let told = rw c.in-Ok.is at c.in_ok-mounted.ensures in
    let p = err_from_is_err_and c.from_residual-in_err-served-in-Ok.result c.from_residual-in_err-served-in-Ok.ensures.1 in (
      told.0,
      told.1,
      rw (p.1, p.2)
          (failed c.args.options.stamp c.args.scripts.now c.args.options.limit told.0 (g.I.Read.remaining c.sound_image.new.reader) (g.W.Write.contents c.args.replies.now)
          (wrote g.O.Write.contents c.args.out.now c.args.out.now) c.in-Ok.mounted.image c.in_err-served-in-Ok.field-0.0 told.2 c.in_err-served-in-Ok.ensures.err
          (untouched g.O.Write.contents c.args.out.now)),
    )

pub returns-in_ok-served-in-Ok-clause-ends : goal.returns-in_ok-served-in-Ok-clause-ends
returns-in_ok-served-in-Ok-clause-ends g c =
    let told = rw c.in-Ok.is at c.in_ok-mounted.ensures in
    let served = c.in_ok-served-in-Ok.served in (
      told.0,
      told.1,
      delivered c.args.options.stamp c.args.scripts.now c.args.options.limit told.0 (g.I.Read.remaining c.sound_image.new.reader)
          (record { old = g.W.Write.contents c.args.replies.now; new = g.W.Write.contents c.deliver-in-Ok.new.replies }) (wrote g.O.Write.contents c.args.out.now c.deliver-in-Ok.new.out)
          c.in-Ok.mounted.image served.volume.image served.said.report (said_text served.said) c.deliver-in-Ok.result told.2 c.in_ok-served-in-Ok.ensures.ok
          (rw c.image-in-Ok.ensures.value at c.deliver-in-Ok.ensures.ends),
    )

pub returns-in-Err-clause-ends : goal.returns-in-Err-clause-ends
returns-in-Err-clause-ends g c =
    let told = rw c.in-Err.is at c.in_ok-mounted.ensures in (
      told.0,
      told.1,
      turned_away c.args.options.stamp c.args.scripts.now c.args.options.limit told.0 (g.I.Read.remaining c.sound_image.new.reader)
          (record { old = g.W.Write.contents c.args.replies.now; new = g.W.Write.contents c.refuse.new.replies }) (wrote g.O.Write.contents c.args.out.now c.args.out.now)
          c.in-Err.no_image.number (string_bytes c.in-Err.no_image.line) c.refuse.result told.2 c.refuse.ensures (untouched g.O.Write.contents c.args.out.now),
    )

pub returns-in_ok-served-in-Ok-clause-limit : goal.returns-in_ok-served-in-Ok-clause-limit
returns-in_ok-served-in-Ok-clause-limit g c =
    within c.deliver-in-Ok.result c.in_ok-served-in-Ok.served.said.report c.args.options.limit c.deliver-in-Ok.ensures.report c.in_ok-served-in-Ok.ensures.limit
