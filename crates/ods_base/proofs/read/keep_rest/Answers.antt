use Rattle.std.proofs.Common.{◌%◌, ◌∙◌, ap, take}
use Rattle.ods_base.proofs.Pieces.{rest_kept}
use Rattle.ods_base.proofs.read.keep_rest.Goals as goal

pub returns-clause-rest : goal.returns-clause-rest
returns-clause-rest c = ap (take (c.args.end % 512)) c.copy_within.ensures.after ∙ rest_kept c.args.piece.now c.args.end c.requires
