use Rattle.std.proofs.Common.{◌≢◌, sym, subst}
use Rattle.ods_space.specs.Layout.{VolumeLayout}
use Rattle.ods_space.specs.Files.{IsLayoutOf}
use Rattle.ods_mount.specs.declared.fault.MountFault.{MountFault}
use Rattle.ods_mount.specs.declared.fault.MountFault.TheVariants.{NoMemory}
use Rattle.ods_mount.specs.Faults.{FaultIsTrue}
use Rattle.ods_mount.proofs.Unlaid.{fault_is_true, has_no_layout}
use Rattle.ods_mount.proofs.layout.read_layout.Goals as goal

pub returns-in-Err-read-clause-err : goal.returns-in-Err-read-clause-err
returns-in-Err-read-clause-err c =
    let P : MountFault → Type 0 = λ e. e ≢ NoMemory → FaultIsTrue c.args.image.now e in
    subst P (sym c.mount_fault.ensures) (fault_is_true c.args.image.now c.in-Ok.found.1 (c.in-Ok.found.0, c.in-Ok.ensures.ok.0, c.in-Ok.ensures.ok.1) c.in-Err-read.fault c.len.ensures.image c.in-Err-read.ensures.err)

pub returns-in-Err-read-clause-none : goal.returns-in-Err-read-clause-none
returns-in-Err-read-clause-none c =
    let P : MountFault → Type 0 = λ e. e ≢ NoMemory → (L : VolumeLayout) → ¬ IsLayoutOf c.args.image.now L in
    subst P (sym c.mount_fault.ensures) (has_no_layout c.args.image.now c.in-Ok.found.1 (c.in-Ok.found.0, c.in-Ok.ensures.ok.0, c.in-Ok.ensures.ok.1) c.in-Err-read.fault c.in-Err-read.ensures.err)

pub returns-in-Err-clause-none : goal.returns-in-Err-clause-none
returns-in-Err-clause-none c = λ some L x. c.in-Err.ensures.err.1 x.home.0 x.home.1.place x.home.1.inside x.home.1.inside x.home.1.home
