-- The links so far lead here.
use Rattle.std.specs.Prelude.{string_bytes}
use Rattle.fs_host.specs.Names.{Leads}
use Rattle.fs_host.proofs.names.follow.Given as goal

abbrev pub invariant-loop-count : goal.invariant-loop-count
invariant-loop-count g l = Leads l.count l.path (string_bytes l.end)
