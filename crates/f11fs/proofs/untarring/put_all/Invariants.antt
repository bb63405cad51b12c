use Rattle.std.proofs.Common.{drop}
use Rattle.std.specs.Prelude.{is_some, not}
use Rattle.f11fs.proofs.Unpacking.{Adds, Along}
use Rattle.f11fs.proofs.untarring.put_all.Given as goal

-- what the rest leaves is what all leave
abbrev pub invariant-loop-one : goal.invariant-loop-one
invariant-loop-one l = Adds l.initial.due.items l.due.items (Along (not (is_some l.times.zone)) l.directory l.times.run l.wanted (drop l.one-index l.wanted) l.initial.filing l.filing)
