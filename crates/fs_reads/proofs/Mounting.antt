-- Images that are not opened, or not mounted.
use Rattle.std.proofs.Common.{◌≡◌, ◌≢◌, ℕ, List, refl, sym, subst, inl, inr}
use Rattle.fs_host.specs.declared.host_fault.HostFault.{HostFault}
use Rattle.fs_host.specs.declared.layers.ReadFault.{ReadFault}
use Rattle.fs_host.specs.declared.layers.ReadFault.TheVariants as reading
use Rattle.ods_base.specs.declared.faults.ImageError.TheVariants as image
use Rattle.ods_mount.specs.Faults.{FaultIsTrue}
use Rattle.ods_mount.specs.declared.fault.MountFault.{MountFault}
use Rattle.ods_mount.specs.declared.fault.MountFault.TheVariants as mount
use Rattle.fs_reads.specs.Volumes.{IsFaultOf, IsNotMounted, IsNotOpened, IsNotReadIn}
use Rattle.fs_reads.specs.declared.volume.VolumeFault.{VolumeFault}
use Rattle.fs_reads.specs.declared.volume.VolumeFault.TheVariants as fault

-- what a mount says of an image is true of it
pub not_mounted_by : (I : List (List ℕ)) (said : MountFault) (why : VolumeFault) → (said ≢ mount.NoMemory → FaultIsTrue I said) → IsFaultOf said why → IsNotMounted I why
not_mounted_by I said (fault.Read why) holds is = absurd is
not_mounted_by I said fault.NoMemory holds is = tt
not_mounted_by I said (fault.OtherSize order) holds is = absurd is
not_mounted_by I said (fault.Image refusal look) holds is = absurd is
not_mounted_by I said (fault.Volume refusal look) holds is = subst (FaultIsTrue I) (sym is.0) (holds is.1)

-- a file in which no volume is read is not opened
pub not_opened : (said : ReadFault) (why : HostFault) (f : VolumeFault) → IsNotReadIn said why f → IsNotOpened f
not_opened (reading.OtherSize order) why f e = subst IsNotOpened (sym e) tt
not_opened (reading.Image image.ReadFailed) why f e = subst IsNotOpened (sym e) tt
not_opened (reading.Image image.NoMemory) why f e = subst IsNotOpened (sym e) tt
not_opened (reading.Image image.NotWholeBlocks) why f e = subst IsNotOpened (sym e.1) (inl refl)
not_opened (reading.Image image.TooBig) why f e = subst IsNotOpened (sym e.1) (inr refl)
