use Rattle.std.proofs.Common.{◌<◌, length, take}
use Rattle.std.specs.List.{concat}
use Rattle.std.specs.Io.KnownBytes.{Appends}
use Rattle.ods_base.proofs.Sending.{IsUnderWay}
use Rattle.ods_base.proofs.image.Image.write_to.Given as goal

-- the writer took the first bytes, the piece has the others of the blocks so far, and room for a block more
abbrev pub invariant-loop-lbn : goal.invariant-loop-lbn
invariant-loop-lbn g l = record {
  way : IsUnderWay l.self l.lbn l.written l.piece.items;
  room : length l.piece.items < 65536;
  sent : Appends (g.W.Write.contents l.initial.writer) (g.W.Write.contents l.writer) (take l.written (concat l.self));
}
