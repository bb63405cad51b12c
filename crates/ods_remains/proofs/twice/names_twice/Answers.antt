use Rattle.std.proofs.Common.{sym, subst}
use Rattle.std.specs.Prelude.{nat_eq, MatchBool}
use Rattle.std.specs.List.{IsDistinct}
use Rattle.std.specs.List.Sorted.{IsNonDecreasing, IsPermutation}
use Rattle.std.proofs.lemmas.List.Sorted.{IsNonDecreasingBy-from_sort}
use Rattle.ods_remains.proofs.Repeats.{as_they_stood}
use Rattle.ods_remains.proofs.twice.names_twice.Goals as goal

pub returns : goal.returns
returns c =
    let sorted = c.sort_unstable.new.self.items in
    let moved = subst (λ xs. IsPermutation xs sorted) c.in_ok-sorted.ensures.items c.sort_unstable.ensures.permutation in
    as_they_stood c.args.blocks.now sorted moved c.has_equal_neighbours.result
    (subst (λ xs. MatchBool c.has_equal_neighbours.result (¬ IsDistinct nat_eq xs) (IsDistinct nat_eq xs)) c.deref.ensures.value c.has_equal_neighbours.ensures)

pub has_equal_neighbours-requires : goal.has_equal_neighbours-requires
has_equal_neighbours-requires c =
    let sorted = c.sort_unstable.new.self.items in
    subst IsNonDecreasing (sym c.deref.ensures.value) (IsNonDecreasingBy-from_sort (λ x. x) sorted c.sort_unstable.ensures.sorted)
