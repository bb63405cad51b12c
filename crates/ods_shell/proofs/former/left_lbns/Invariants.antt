-- The LBNs so far, each past the image where it is not free.
use Rattle.std.proofs.Common.{◌≡◌, map, take}
use Rattle.ods_shell.specs.Former.{left_lbn}
use Rattle.ods_shell.proofs.former.left_lbns.Given as goal

abbrev pub invariant-loop-lbn : goal.invariant-loop-lbn
invariant-loop-lbn l = l.left.items ≡ map (left_lbn l.fn.disk.image.now l.fn.disk.layout.now) (take l.lbn-index l.lbns)
