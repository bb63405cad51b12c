use Rattle.std.proofs.Common.{◌≡◌, ◌≤◌, take}
use Rattle.ods_share.specs.Sittings.{room_for}
use Rattle.ods_share.proofs.keeping.submit_count.Given as goal

abbrev pub invariant-loop-command : goal.invariant-loop-command
invariant-loop-command l = (l.count ≡ room_for (take l.command-index l.script)) × (l.count ≤ l.command-index)
