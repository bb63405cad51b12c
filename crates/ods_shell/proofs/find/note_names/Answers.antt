use Rattle.std.proofs.Common.{[], subst, sym, append-nil}
use Rattle.ods_shell.specs.There.{AreFlags, IsAmong}
use Rattle.ods_shell.proofs.Unreached.{named_by_none}
use Rattle.ods_shell.proofs.find.note_names.Goals as goal

pub returns-else-is_directory_file : goal.returns-else-is_directory_file
returns-else-is_directory_file c = λ ids are. (
  [],
  (
    named_by_none c.args.disk.now.image.now c.args.disk.now.layout.now c.args.number (λ is. c.if-is_directory_file.ensures is),
    subst (λ all. AreFlags (IsAmong c.args.disk.now.image.now c.args.disk.now.layout.now all) c.args.is_named.now.items) (sym (append-nil ids)) are,
  ),
)
