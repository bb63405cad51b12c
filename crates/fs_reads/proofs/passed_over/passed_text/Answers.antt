use Rattle.std.proofs.Common.{ap, sym, ◌∙◌}
use Rattle.std.specs.String.{string_bytes}
use Rattle.fs_reads.specs.Told.{is_no_directory}
use Rattle.fs_reads.proofs.PassedOver.{says_none, says_bad}
use Rattle.fs_reads.proofs.passed_over.passed_text.Goals as goal

pub returns-then-is_no_directory : goal.returns-then-is_no_directory
returns-then-is_no_directory c =
    says_none c.args.disk.now.image.now c.args.disk.now.layout.now c.args.number c.args.bad c.sequence.result c.in_ok-lines.lines.items (c.in_ok-lines.ensures.there c.requires) c.sequence.ensures
    string_bytes c.no_directory_text.result (ap (is_no_directory c.args.number) (sym c.deref.ensures.value) ∙ sym c.is_no_directory.ensures ∙ c.if-is_no_directory.true) c.no_directory_text.ensures
