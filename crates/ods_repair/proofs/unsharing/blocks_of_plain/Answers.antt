use Rattle.std.proofs.Common.{◌≡◌, refl, sym, ◌∙◌}
use Rattle.ods_space.specs.declared.fault.ChainFault.TheVariants.{BadChain, OutsideVolume, NoMemory}
use Rattle.ods_check.proofs.Directories.{no_blocks}
use Rattle.ods_repair.proofs.unsharing.blocks_of_plain.Goals as goal

pub returns-in-Err-BadChain-clause-refused : goal.returns-in-Err-BadChain-clause-refused
returns-in-Err-BadChain-clause-refused c = (
  refl,
  no_blocks c.args.disk.now.image.now c.args.disk.now.layout.now c.args.file c.in-Err-BadChain.field-0 c.in-Err-BadChain.ensures.err
      (λ e. let clash : BadChain ≡ NoMemory = sym c.in-Err-BadChain.field-0-is ∙ e in absurd cc),
)

pub returns-in-Err-OutsideVolume-clause-refused : goal.returns-in-Err-OutsideVolume-clause-refused
returns-in-Err-OutsideVolume-clause-refused c = (
  refl,
  no_blocks c.args.disk.now.image.now c.args.disk.now.layout.now c.args.file c.in-Err-OutsideVolume.field-0 c.in-Err-OutsideVolume.ensures.err
      (λ e. let clash : OutsideVolume c.in-Err-OutsideVolume.field-0-0 ≡ NoMemory = sym c.in-Err-OutsideVolume.field-0-is ∙ e in absurd cc),
)
