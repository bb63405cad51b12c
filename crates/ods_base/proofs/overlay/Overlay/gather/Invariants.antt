use Rattle.std.proofs.Common.{◌≡◌, take}
use Rattle.ods_base.proofs.overlay.Overlay.gather.Given as goal

abbrev pub invariant-loop-lbn : goal.invariant-loop-lbn
invariant-loop-lbn l = l.blocks.items ≡ take l.lbn l.self
