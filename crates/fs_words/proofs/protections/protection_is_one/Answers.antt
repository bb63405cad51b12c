use Rattle.fs_words.proofs.OneProtection.{one_at_most}
use Rattle.fs_words.proofs.protections.protection_is_one.Goals as goal

pub returns : goal.returns
returns c = one_at_most
