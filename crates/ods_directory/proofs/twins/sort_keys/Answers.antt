use Rattle.std.proofs.Common.{rules}
use Rattle.std.proofs.lemmas.List.Sorted.{answers_always}
use Rattle.ods_directory.proofs.twins.sort_keys.Goals as goal

pub returns-clause-order : goal.returns-clause-order
returns-clause-order c = c.sort_unstable_by_key.ensures.sorted (λ key. key) (answers_always _ _ _ (λ f a r g h. search rules))
