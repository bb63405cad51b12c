use Rattle.std.proofs.Common.{◌++◌, ◌∷◌, []}
use Rattle.ods_check.proofs.SameWords.{same_words}
use Rattle.ods_check.proofs.unnamed.has_words.Goals as goal

pub returns : goal.returns
returns c = same_words (c.args.name.now.words ++ c.args.name.now.ext ∷ []) c.args.words.now c.name_words.result c.eq.result c.name_words.ensures c.eq.ensures
