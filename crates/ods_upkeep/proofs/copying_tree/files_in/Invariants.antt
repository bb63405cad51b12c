use Rattle.std.proofs.Common.{take}
use Rattle.ods_upkeep.specs.CopiedTree.{AreFilesAt}
use Rattle.ods_upkeep.proofs.copying_tree.files_in.Given as goal

abbrev pub invariant-loop-entry : goal.invariant-loop-entry
invariant-loop-entry l = AreFilesAt l.other.image.now l.other.layout.now l.directory (take l.entry-index l.entry-items) l.files.items
