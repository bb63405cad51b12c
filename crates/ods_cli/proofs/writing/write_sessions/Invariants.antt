use Rattle.std.proofs.Common.{◌+◌, ◌≤◌, length}
use Rattle.ods_cli.specs.Printed.{printed_text}
use Rattle.ods_cli.proofs.Parts.{HasLeft}
use Rattle.ods_cli.proofs.writing.write_sessions.Given as goal

abbrev pub invariant-loop-session : goal.invariant-loop-session
invariant-loop-session g l = record {
  few : l.number + length l.sessions ≤ 9;
  sent : HasLeft (printed_text 1 l.initial.sessions) (g.W.Write.contents l.initial.writer) (g.W.Write.contents l.writer) (printed_text l.number l.sessions);
}

abbrev pub decreases-loop-session : goal.decreases-loop-session
decreases-loop-session g l = length l.sessions
