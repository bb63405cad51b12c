use Rattle.ods_order.proofs.Interleaved.{floppy_interleaved, rx50_interleaved}
use Rattle.ods_order.proofs.laws.sectors_are_interleaved.Goals as goal

pub returns : goal.returns
returns c = (floppy_interleaved, rx50_interleaved)
