use Rattle.std.proofs.Common.{◌≡◌, ◌≤◌, ◌++◌, length}
use Rattle.ods_header.specs.Header.{IsLaidOut, runs_of}
use Rattle.ods_space.specs.Chain.{named_by}
use Rattle.ods_space.proofs.Located.{blocks_from}
use Rattle.ods_space.proofs.cursor.ChainRuns.next.Given as goal

abbrev pub invariant-loop-self : goal.invariant-loop-self
invariant-loop-self l = IsLaidOut l.self-inside.header.now
    × (l.self-inside.pointer ≤ length (runs_of l.self-inside.header.now))
    × (l.fn.self ≡ blocks_from l.self-inside.header.now l.self-inside.pointer ++ named_by l.self-inside.headers)

abbrev pub decreases-loop-self : goal.decreases-loop-self
decreases-loop-self l = length l.self-inside.headers
