use Rattle.std.proofs.Common.{rules}
use Rattle.ods_shell.proofs.Runs.{run_more, run_none}
use Rattle.ods_shell.proofs.space.run_to.Goals as goal

pub returns-then-is_free : goal.returns-then-is_free
returns-then-is_free c = λ run. run_more c.args.disk.now.image.now c.args.disk.now.layout.now c.args.lbn c.args.before (search rules) run

pub returns-else-is_free : goal.returns-else-is_free
returns-else-is_free c = λ run. run_none c.args.disk.now.image.now c.args.disk.now.layout.now c.args.lbn (search rules)
