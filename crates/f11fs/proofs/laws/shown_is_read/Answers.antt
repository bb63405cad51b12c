use Rattle.f11fs.proofs.ShownRights.{shown_read}
use Rattle.f11fs.proofs.laws.shown_is_read.Goals as goal

pub returns : goal.returns
returns c = shown_read
