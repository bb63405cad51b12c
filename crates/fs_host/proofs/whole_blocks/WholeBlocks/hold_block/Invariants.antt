-- What is held and what is left are together what they were.
use Rattle.std.proofs.Common.{◌-◌, take}
use Rattle.std.specs.Io.KnownBytes.{Keeps, prepend_known}
use Rattle.fs_host.proofs.whole_blocks.WholeBlocks.hold_block.Given as goal

abbrev pub invariant-loop-self : goal.invariant-loop-self
invariant-loop-self g l =
    Keeps (prepend_known (take l.initial.self.held l.initial.self.piece) (g.R.Read.remaining l.initial.self.reader)) (prepend_known (take l.self.held l.self.piece) (g.R.Read.remaining l.self.reader))

abbrev pub decreases-loop-self : goal.decreases-loop-self
decreases-loop-self g l = 512 - l.self.held
