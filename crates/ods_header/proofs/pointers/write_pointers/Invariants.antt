use Rattle.ods_header.proofs.PointersAt.{AreWrittenAt}
use Rattle.ods_header.proofs.pointers.write_pointers.Given as goal

abbrev pub invariant-loop-k : goal.invariant-loop-k
invariant-loop-k l = AreWrittenAt l.initial.block l.block l.at l.runs l.k
