use Rattle.std.proofs.Common.{◌≡◌}
use Rattle.ods_cli.specs.Printed.{calls_kept, printed_of}
use Rattle.ods_cli.proofs.sessions.part_sessions.Given as goal

abbrev pub invariant-loop-one : goal.invariant-loop-one
invariant-loop-one l = record {
  calls : l.calls.items ≡ calls_kept l.yielded;
  printed : l.printed.items ≡ printed_of l.yielded;
}
