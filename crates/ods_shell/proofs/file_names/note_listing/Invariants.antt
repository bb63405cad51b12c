use Rattle.ods_shell.proofs.Noted.{IsNoting}
use Rattle.ods_shell.proofs.file_names.note_listing.Given as goal

abbrev pub invariant-loop-entry : goal.invariant-loop-entry
invariant-loop-entry l = IsNoting l.disk.image.now l.disk.layout.now l.walk.directories l.place l.entries l.entry-index l.first.items
