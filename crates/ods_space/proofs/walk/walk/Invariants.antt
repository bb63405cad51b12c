use Rattle.std.proofs.Common.{◌<◌}
use Rattle.ods_space.proofs.Walks.{IsUnderWay}
use Rattle.ods_space.proofs.walk.walk.Given as goal

abbrev pub invariant-loop-segment : goal.invariant-loop-segment
invariant-loop-segment g l = record {
  short : l.segment < 256;
  way : IsUnderWay l.image l.home (g.N.Notes.placed_by l.initial.notes) l.number (g.N.Notes.has l.initial.notes l.notes) l.segment l.block;
}
