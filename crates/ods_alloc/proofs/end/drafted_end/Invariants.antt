use Rattle.std.proofs.Common.{◌≡◌, ◌*◌, ◌≤◌, List, ℕ}
use Rattle.ods_space.specs.Layout.{header_at}
use Rattle.ods_space.specs.Chain.{IsChain}
use Rattle.ods_space.specs.Draft.{applied}
use Rattle.ods_alloc.proofs.Walking.{IsWalked}
use Rattle.ods_alloc.proofs.end.drafted_end.Given as goal

abbrev pub invariant-loop-k : goal.invariant-loop-k
invariant-loop-k l = (l.blocks ≤ 26112 * l.k)
    × ((C : List (List ℕ)) (others all : List ℕ) → ((m : ℕ) → header_at C l.seen.disk.layout.now m ≡ header_at (applied l.seen.disk.image.now l.seen.draft.now) l.seen.disk.layout.now m) → IsChain C l.seen.disk.layout.now l.number others all
    → IsWalked (applied l.seen.disk.image.now l.seen.draft.now) C l.seen.disk.layout.now l.number others all l.k l.end l.last l.next)
