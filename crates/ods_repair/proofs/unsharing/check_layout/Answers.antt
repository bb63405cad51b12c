use Rattle.std.proofs.Common.{subst}
use Rattle.ods_repair.specs.Spare.{AreOnce, IsNotSpare}
use Rattle.ods_repair.proofs.Ready.{once_fault, spare_fault}
use Rattle.ods_repair.proofs.unsharing.check_layout.Goals as goal

pub returns-in-Err-clause-refused : goal.returns-in-Err-clause-refused
returns-in-Err-clause-refused c = λ file.
    once_fault c.args.disk.now.image.now c.args.disk.now.layout.now file c.in-Err.why
    (λ first. subst (λ xs. IsNotSpare c.args.disk.now.image.now c.args.disk.now.layout.now 1 xs first c.in-Err.why) c.index.ensures (c.in-Err.ensures.err first))

pub returns-in-Err-check_spare-clause-refused : goal.returns-in-Err-check_spare-clause-refused
returns-in-Err-check_spare-clause-refused c = λ file.
    spare_fault c.args.disk.now.image.now c.args.disk.now.layout.now file c.in-Err-check_spare.why
    (subst (λ xs. IsNotSpare c.args.disk.now.image.now c.args.disk.now.layout.now 2 xs 0 c.in-Err-check_spare.why) c.bitmap.ensures c.in-Err-check_spare.ensures.err)

pub returns-in-Ok-check_spare-clause-once : goal.returns-in-Ok-check_spare-clause-once
returns-in-Ok-check_spare-clause-once c = subst AreOnce c.index.ensures c.in-Ok.ensures.ok
