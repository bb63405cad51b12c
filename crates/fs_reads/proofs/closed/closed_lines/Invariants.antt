-- The lines of the directories so far.
use Rattle.std.proofs.Common.{◌≡◌, take, string_bytes}
use Rattle.fs_reads.specs.Denied.{closed_text}
use Rattle.fs_reads.proofs.closed.closed_lines.Given as goal

abbrev pub invariant-loop-directory : goal.invariant-loop-directory
invariant-loop-directory l = string_bytes l.lines ≡ closed_text l.user (take l.directory-index l.closed)
