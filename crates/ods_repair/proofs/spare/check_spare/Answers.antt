use Rattle.std.proofs.Common.{rules}
use Rattle.ods_repair.proofs.spare.check_spare.Goals as goal

pub returns-in_err-check_once-clause-err : goal.returns-in_err-check_once-clause-err
returns-in_err-check_once-clause-err c =
    let why = c.in_err-check_once.ensures.err c.args.first in
    search rules
