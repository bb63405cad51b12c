use Rattle.std.proofs.Common.{◌<◌, ◌^◌, ◌++◌, List, length, take}
use Rattle.std.specs.Prelude.{slice_index}
use Rattle.ods_base.specs.declared.listed.Listed.{Listed}
use Rattle.ods_upkeep.specs.Counted.{AreCountsOf}
use Rattle.ods_upkeep.proofs.names.Names.add_directory.Given as goal

abbrev pub invariant-loop-entry : goal.invariant-loop-entry
invariant-loop-entry l =
    (entries : List Listed) → length entries < 2 ^ 60 → AreCountsOf l.volume.image l.volume.layout entries (slice_index l.initial.self)
    → AreCountsOf l.volume.image l.volume.layout (entries ++ take l.entry-index l.entry-items) (slice_index l.self)
