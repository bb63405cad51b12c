use Rattle.std.proofs.Common.{◌≡◌, ◌*◌, ◌++◌, min, take}
use Rattle.ods_base.specs.Image.{image_bytes}
use Rattle.ods_files.specs.Body.{padded}
use Rattle.ods_files.proofs.sending.push_first.Given as goal

-- the bytes of the first k blocks are there, of those that are wanted
abbrev pub invariant-loop-k : goal.invariant-loop-k
invariant-loop-k l =
    l.bytes.items ≡ l.initial.bytes.items ++ take (min (512 * l.k) l.size) (take l.size (image_bytes (padded l.image l.lbns)))
