use Rattle.std.proofs.Common.{◌*◌, ◌^◌, ◌≤◌, List, length}
use Rattle.std.specs.Prelude.{slice_index}
use Rattle.ods_base.specs.declared.listed.Listed.{Listed}
use Rattle.ods_upkeep.specs.Counted.{AreCountsOf, AreEntriesTo}
use Rattle.ods_upkeep.proofs.names.Names.of.Given as goal

abbrev pub invariant-loop-before : goal.invariant-loop-before
invariant-loop-before l =
    (entries : List Listed) × AreEntriesTo l.volume.image l.volume.layout l.before entries × AreCountsOf l.volume.image l.volume.layout entries (slice_index l.names)
    × (length entries ≤ l.before * 2 ^ 32)
