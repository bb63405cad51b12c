use Rattle.std.proofs.Common.{subst, length}
use Rattle.std.specs.Prelude.{MatchBool}
use Rattle.std.specs.List.Sorted.{IsPermutation}
use Rattle.ods_directory.specs.Entry.{used_entries}
use Rattle.ods_directory.specs.Lines.{HasTwinNeighbours, HasNoTwinNeighbours}
use Rattle.ods_directory.proofs.KeysOf.{found}
use Rattle.ods_directory.proofs.twins.has_twins.Goals as goal

pub returns : goal.returns
returns g c =
    let keys = c.sort_keys.new.keys.items in
    let permuted = subst (λ xs. IsPermutation xs keys) c.in_ok-keys.ensures c.sort_keys.ensures.permutation in
    let answer = subst (λ ks. MatchBool c.has_twin_neighbours.result (HasTwinNeighbours (λ key. key) ks) (HasNoTwinNeighbours (λ key. key) ks (length ks))) c.deref.ensures.value c.has_twin_neighbours.ensures in
    found (used_entries (g.B.DirBlocks.blocks c.args.blocks.now) c.args.mark) keys permuted c.sort_keys.ensures.order c.has_twin_neighbours.result answer
