use Rattle.ods_directory.specs.Lines.{HasNoTwinNeighbours}
use Rattle.ods_directory.proofs.twins.has_twin_neighbours.Given as goal

abbrev pub invariant-loop-i : goal.invariant-loop-i
invariant-loop-i l = HasNoTwinNeighbours (λ key. key) l.keys l.i
