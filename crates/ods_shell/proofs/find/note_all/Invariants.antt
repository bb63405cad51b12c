-- The files are flagged that the entries so far name, too.
use Rattle.std.proofs.Common.{List, ◌++◌, map, take}
use Rattle.ods_base.specs.declared.file_id.FileId.{FileId}
use Rattle.ods_base.specs.declared.listed.Listed.{Listed}
use Rattle.ods_shell.specs.There.{AreFlags, IsAmong}
use Rattle.ods_shell.proofs.find.note_all.Given as goal

abbrev pub invariant-loop-entry : goal.invariant-loop-entry
invariant-loop-entry l = (ids : List FileId) → AreFlags (IsAmong l.disk.image.now l.disk.layout.now ids) l.initial.is_named.items
    → AreFlags (IsAmong l.disk.image.now l.disk.layout.now (ids ++ map (λ (e : Listed). e.file) (take l.entry-index l.entries))) l.is_named.items
