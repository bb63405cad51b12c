use Rattle.ods_shell.specs.ByNumber.{AreNoted}
use Rattle.ods_shell.proofs.file_names.note_walk.Given as goal

abbrev pub invariant-loop-place : goal.invariant-loop-place
invariant-loop-place l = AreNoted l.disk.image.now l.disk.layout.now l.walk.directories l.place l.first.items
