use Rattle.std.proofs.Common.{subst, sym}
use Rattle.ods_space.specs.declared.fault.LayoutFault.{LayoutFault}
use Rattle.ods_space.specs.Faults.{IsLayoutFault}
use Rattle.ods_space.proofs.Layouts.{bitmap_fault}
use Rattle.ods_space.proofs.system.read_bitmap.Goals as goal

pub returns-in-Err-clause-err : goal.returns-in-Err-clause-err
returns-in-Err-clause-err c =
    let P : LayoutFault → Type 0 = λ fault. IsLayoutFault c.args.image.now c.args.home.now fault in
    subst P (sym c.layout_fault.ensures)
    (bitmap_fault c.args.image.now c.args.home.now c.args.index.now c.most.result c.in-Err.fault c.requires c.most.ensures c.in-Some.ensures.some.0 c.in-Err.ensures.err)
