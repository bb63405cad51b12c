use Rattle.std.proofs.Common.{rules, ◌∙◌, ap, string_bytes}
use Rattle.fs_reads.proofs.near.first_path.Goals as goal

pub returns-in-Ok : goal.returns-in-Ok
returns-in-Ok c = (c.in_ok-first.first.now, search rules, search rules)
