-- The files of the entries so far.
use Rattle.std.proofs.Common.{take}
use Rattle.fs_reads.specs.TreesGot.{AreFilesOf}
use Rattle.fs_reads.proofs.getting_tree.files_in.Given as goal

abbrev pub invariant-loop-entry : goal.invariant-loop-entry
invariant-loop-entry l = AreFilesOf l.disk.image.now l.disk.layout.now l.directory (take l.entry-index l.entry-items) l.files.items
