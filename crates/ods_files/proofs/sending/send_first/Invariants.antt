use Rattle.std.proofs.Common.{◌*◌, min, take}
use Rattle.ods_base.specs.Image.{image_bytes}
use Rattle.ods_files.specs.Body.{padded}
use Rattle.ods_files.specs.Sending.{IsSending}
use Rattle.ods_files.proofs.sending.send_first.Given as goal

-- the writer and the piece have the bytes of the first k blocks, of those that are wanted
abbrev pub invariant-loop-k : goal.invariant-loop-k
invariant-loop-k g l =
    IsSending (take l.size (image_bytes (padded l.image l.lbns))) (g.W.Write.contents l.initial.writer) (g.W.Write.contents l.writer) (min (512 * l.k) l.size) l.written l.piece.items
