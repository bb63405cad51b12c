use Rattle.std.proofs.Common.{◌≡◌, ◌++◌, drop}
use Rattle.ods_base.specs.Image.{image_bytes}
use Rattle.ods_base.proofs.resize.bytes_from.Given as goal

abbrev pub invariant-loop-k : goal.invariant-loop-k
invariant-loop-k l = l.bytes.items ++ image_bytes (drop l.k l.blocks) ≡ image_bytes (drop l.first l.blocks)
