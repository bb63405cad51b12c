use Rattle.std.proofs.Common.{sym, arith}
use Rattle.ods_upkeep.proofs.Below.{none_at_all, none_of_all}
use Rattle.ods_upkeep.proofs.moving.has_entered.Goals as goal

pub returns-in-None : goal.returns-in-None
returns-in-None c = none_at_all c.args.walk.now.directories c.loop-place.place c.args.number (sym c.in-None.ensures) c.loop-place.invariant

pub returns : goal.returns
returns c = none_of_all c.args.walk.now.directories c.loop-place.place c.args.number (omega (arith, c.requires, c.loop-place-test.false)) c.loop-place.invariant
