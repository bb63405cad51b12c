use Rattle.std.proofs.Common.{◌≡◌, ◌+◌, ◌-◌, ◌*◌, ◌^◌, ◌<◌, ◌≤◌, ◌++◌, length, take}
use Rattle.std.specs.List.{All, concat}
use Rattle.std.specs.Io.KnownBytes.{Consumes}
use Rattle.ods_base.specs.Block.{IsBlock}
use Rattle.ods_base.proofs.read.read_blocks.Given as goal

-- what was taken from the reader stands in whole blocks, and the rest at the front of the piece
abbrev pub invariant-pieces : goal.invariant-pieces
invariant-pieces g l = record {
  taken : Consumes (g.R.Read.remaining l.initial.reader) (g.R.Read.remaining l.reader) (concat l.blocks.items ++ take l.held l.piece);
  each : All IsBlock l.blocks.items;
  size : length l.piece ≡ 65536;
  held : l.held < 512;
  most : 512 * length l.blocks.items + l.held ≤ 2 ^ 29;
}

abbrev pub decreases-pieces : goal.decreases-pieces
decreases-pieces g l = 2 ^ 29 - (512 * length l.blocks.items + l.held)
