use Rattle.std.proofs.Common.{rules}
use Rattle.std.specs.Ordering.{is_lt, nat_cmp}
use Rattle.std.proofs.lemmas.List.Sorted.{answers_always}
use Rattle.ods_shell.proofs.Places.{on_ok}
use Rattle.ods_shell.proofs.Uses.{falling_by, falls}
use Rattle.ods_shell.proofs.usage.sort_uses.Goals as goal

pub returns-clause-order : goal.returns-clause-order
returns-clause-order c = on_ok c.sort_by.result (λ sorted. falling_by c.sort_by.new.self.items
    (sorted (λ x y. is_lt (nat_cmp y.blocks x.blocks)) falls (answers_always _ _ _ (λ f a r g h. search rules)))) c.sort_by.ensures.sorted
