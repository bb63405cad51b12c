use Rattle.std.proofs.Common.{◌≡◌, length, take}
use Rattle.f11fs.proofs.AllTold.{Notes}
use Rattle.f11fs.proofs.telling.note_all.Given as goal

abbrev pub invariant-loop-one : goal.invariant-loop-one
invariant-loop-one l = (length l.named.items ≡ length l.initial.named.items) × Notes l.volume (take l.one-index l.all) l.initial.named.items l.named.items
