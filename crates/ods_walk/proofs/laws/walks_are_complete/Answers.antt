use Rattle.ods_walk.proofs.Completeness.{all_complete}
use Rattle.ods_walk.proofs.laws.walks_are_complete.Goals as goal

pub returns : goal.returns
returns c = all_complete
