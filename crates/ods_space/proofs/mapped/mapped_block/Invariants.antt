use Rattle.std.proofs.Common.{◌≡◌}
use Rattle.std.specs.Prelude.{slice_get}
use Rattle.ods_header.specs.Header.{blocks_of}
use Rattle.ods_space.proofs.Located.{blocks_from}
use Rattle.ods_space.proofs.mapped.mapped_block.Given as goal

abbrev pub invariant-loop-k : goal.invariant-loop-k
invariant-loop-k l = slice_get (blocks_of l.header) l.index ≡ slice_get (blocks_from l.header l.k) l.left
