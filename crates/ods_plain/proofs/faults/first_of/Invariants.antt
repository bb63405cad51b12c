use Rattle.std.proofs.Common.{◌≡◌, drop}
use Rattle.ods_request.specs.Faults.{first_of}
use Rattle.ods_plain.proofs.faults.first_of.Given as goal

-- no condition so far holds
abbrev pub invariant-loop-holds : goal.invariant-loop-holds
invariant-loop-holds l = first_of l.rows ≡ first_of (drop l.holds-index l.rows)
