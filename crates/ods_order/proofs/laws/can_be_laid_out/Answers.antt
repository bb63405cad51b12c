use Rattle.ods_order.proofs.Laying.{can_be_laid}
use Rattle.ods_order.proofs.laws.can_be_laid_out.Goals as goal

pub returns : goal.returns
returns c = can_be_laid
