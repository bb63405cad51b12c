use Rattle.fs_words.proofs.Floppies.{fit}
use Rattle.fs_words.proofs.laws.floppies_fit.Goals as goal

pub returns : goal.returns
returns c = fit
