use Rattle.std.proofs.Common.{string_bytes}
use Rattle.fs_host.specs.Texts.{shown_text}
use Rattle.fs_reads.proofs.Saying.{said_line}
use Rattle.fs_reads.proofs.stop.stop_about.Goals as goal

pub returns-in-Ok-clause-line : goal.returns-in-Ok-clause-line
returns-in-Ok-clause-line g c = said_line (g.D.Display.output c.args.why) (shown_text c.args.what.now) (string_bytes c.in-Ok.line) c.in-Ok.ensures.ok
