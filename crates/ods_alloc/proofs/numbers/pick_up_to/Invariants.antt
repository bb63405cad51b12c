use Rattle.ods_space.specs.Free.{is_open_number}
use Rattle.ods_alloc.proofs.Scans.{AreFound}
use Rattle.ods_alloc.proofs.numbers.pick_up_to.Given as goal

abbrev pub invariant-loop-k : goal.invariant-loop-k
invariant-loop-k l = AreFound (is_open_number l.fn.disk.image.now l.fn.disk.layout.now l.most) 1 l.most l.numbers.items l.from l._k
