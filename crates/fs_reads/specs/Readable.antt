-- A volume that is read, sound or not.
use Rattle.std.specs.Prelude.{◌≡◌, ◌⊎◌, ℕ, Bool, List, Ok, Option, Result, MatchBool, if◌then◌else◌}
use Rattle.fs_host.specs.declared.containers.Extent.{Extent}
use Rattle.ods_mount.specs.Faults.{FaultIsTrue, IsSound}
use Rattle.ods_mount.specs.declared.fault.MountFault.{MountFault}
use Rattle.ods_space.specs.Files.{FindsFiles, IsReadable}
use Rattle.ods_space.specs.Layout.{VolumeLayout}
use Rattle.ods_shell.specs.declared.status.Status.{Status}
use Rattle.ods_shell.specs.declared.status.Status.TheVariants as status
use Rattle.fs_reads.specs.declared.stop.Stop.{Stop}
use Rattle.fs_reads.specs.declared.stop.Stop.TheVariants as stop
use Rattle.fs_reads.specs.declared.volume.VolumeFault.{VolumeFault}

-- an image with its layout, whether a mount accepts it, and how many bytes come past the volume
pub record Opened : Type 0 where
  pub image : List (List ℕ)
  pub layout : VolumeLayout
  pub sound : Bool
  pub behind : ℕ

-- the status of a command that showed all that it could: a refused image comes first
abbrev pub end_of : Bool → Status → Status
end_of sound done = if sound then done else status.Image

-- it is this image with a layout by which it is read, and sound, or one of its faults is known
abbrev pub IsJudged : List (List ℕ) → Opened → Type 0
IsJudged I r = (r.image ≡ I) × IsReadable I r.layout × MatchBool r.sound (IsSound I) ((fault : MountFault) × FaultIsTrue I fault)

-- why a command ends early: out of memory, or no layout locates the files of the image
abbrev pub LacksLayout : List (List ℕ) → Stop → Type 0
LacksLayout I s = (s ≡ stop.NoMemory) ⊎ ((L : VolumeLayout) → ¬ FindsFiles I L)

-- it is the volume of the image that was read, with a remark on the length of its file
abbrev pub IsReadableOf : Result (List (List ℕ) × Option Extent) VolumeFault → Opened → Type 0
IsReadableOf opened r = (extent : Option Extent) × (opened ≡ Ok (r.image, extent)) × IsJudged r.image r
