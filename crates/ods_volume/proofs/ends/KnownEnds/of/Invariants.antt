use Rattle.std.proofs.Common.{ℕ, ◌<◌, Option, get_or}
use Rattle.ods_state.specs.declared.known_end.KnownEnd.{KnownEnd}
use Rattle.ods_volume.specs.Ends.{IsNotOf}
use Rattle.ods_volume.proofs.ends.KnownEnds.of.Given as goal

-- nothing is noted of the file at the places that were passed
abbrev pub invariant-loop-noted : goal.invariant-loop-noted
invariant-loop-noted l = (i : ℕ) (d : Option KnownEnd) → i < l.noted-index → IsNotOf l.file (get_or l.noted-items i d)
