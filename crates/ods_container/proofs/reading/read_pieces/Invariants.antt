use Rattle.std.proofs.Common.{◌+◌, ◌-◌, ◌<◌, ◌≤◌, ◌^◌, length}
use Rattle.std.specs.Io.KnownBytes.{Consumes}
use Rattle.ods_container.proofs.reading.read_pieces.Given as goal

-- all that was taken from the reader stands there
abbrev pub invariant-pieces : goal.invariant-pieces
invariant-pieces g l = record {
  taken : Consumes (g.R.Read.remaining l.initial.reader) (g.R.Read.remaining l.reader) l.all.items;
  few : length l.all.items ≤ 2 ^ 29 + 2 ^ 16;
  some : 0 < length l.piece;
}

abbrev pub decreases-pieces : goal.decreases-pieces
decreases-pieces g l = (2 ^ 29 + 2 ^ 16) - length l.all.items
