use Rattle.std.proofs.Common.{◌≡◌, ◌*◌, min, take}
use Rattle.ods_base.specs.Image.{image_bytes}
use Rattle.ods_files.specs.Body.{padded}
use Rattle.ods_files.proofs.comparing.have_same_first.Given as goal

-- the bytes of the first k blocks are the same, of those that are wanted
abbrev pub invariant-loop-k : goal.invariant-loop-k
invariant-loop-k l =
    take (min (512 * l.k) l.size) (take l.size (image_bytes (padded l.image l.lbns))) ≡ take (min (512 * l.k) l.size) (take l.size (image_bytes (padded l.other l.others)))
