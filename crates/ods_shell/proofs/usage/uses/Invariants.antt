-- What the lines so far count, and the flags of the files that they name.
use Rattle.std.proofs.Common.{[], take}
use Rattle.ods_shell.specs.There.{AreFlags, ids_in}
use Rattle.ods_shell.specs.Usage.{AreUses, IsCounted}
use Rattle.ods_shell.proofs.usage.uses.Given as goal

abbrev pub invariant-loop-line : goal.invariant-loop-line
invariant-loop-line l =
    AreUses l.disk.image.now l.disk.layout.now [] (take l.line-index l.line-items) l.all.items
    × AreFlags (IsCounted l.disk.image.now l.disk.layout.now (ids_in (take l.line-index l.line-items))) l.is_seen.items
