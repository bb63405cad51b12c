use Rattle.std.proofs.Common.{[]}
use Rattle.ods_shell.specs.Ways.{AreMet}
use Rattle.ods_shell.proofs.NoneAlone.{given_back}
use Rattle.ods_shell.proofs.alone.find_inside.Goals as goal

pub returns-in-Ok-clause-met : goal.returns-in-Ok-clause-met
returns-in-Ok-clause-met c = given_back (λ a b. AreMet c.args.closed.now [] b.items) c.in-Ok.files c.in_ok-all.met c.some_found.result c.in_ok-all.ensures.met c.some_found.ensures.given
