-- Why a file of the host has no volume.
use Rattle.std.specs.Prelude.{◌≡◌, ◌≢◌, ◌⊎◌, ◌||◌, ℕ, Bool, true, false, List, Option, Some, None, if◌then◌else◌}
use Rattle.std.specs.Borrow.{Bor}
use Rattle.fs_host.specs.declared.containers.Extent.{Extent}
use Rattle.fs_host.specs.declared.containers.Extent.TheVariants as extent
use Rattle.fs_host.specs.declared.host_fault.HostFault.{HostFault}
use Rattle.ods_base.specs.declared.faults.ImageError.{ImageError}
use Rattle.ods_base.specs.declared.faults.ImageError.TheVariants as image
use Rattle.fs_host.specs.declared.layers.ReadFault.{ReadFault}
use Rattle.fs_host.specs.declared.layers.ReadFault.TheVariants as reading
use Rattle.ods_container.specs.Part.{HaveBlocksBelow, IsReadablePart}
use Rattle.ods_order.specs.Order.{container_size}
use Rattle.ods_mount.specs.Faults.{FaultIsTrue}
use Rattle.ods_mount.specs.declared.fault.MountFault.{MountFault}
use Rattle.ods_mount.specs.declared.fault.MountFault.TheVariants as mount
use Rattle.fs_reads.specs.declared.looks.Look.{Look}
use Rattle.fs_reads.specs.declared.stop.Stop.{Stop}
use Rattle.fs_reads.specs.declared.stop.Stop.TheVariants as stop
use Rattle.fs_reads.specs.declared.stop.WordFault.TheVariants as word
use Rattle.fs_reads.specs.declared.volume.VolumeFault.{VolumeFault}
use Rattle.fs_reads.specs.declared.volume.VolumeFault.TheVariants as fault

-- why there is no image: reading failed, for this reason, or memory did, or the bytes are refused, with their apparent type
abbrev pub IsNotRead : ImageError → HostFault → VolumeFault → Type 0
IsNotRead image.ReadFailed why f = f ≡ fault.Read why
IsNotRead image.NoMemory why f = f ≡ fault.NoMemory
IsNotRead image.NotWholeBlocks why f = (look : Option Look) × (f ≡ fault.Image image.NotWholeBlocks look)
IsNotRead image.TooBig why f = (look : Option Look) × (f ≡ fault.Image image.TooBig look)

-- the same in the specified order: the file may have another size than a floppy of that order
abbrev pub IsNotReadIn : ReadFault → HostFault → VolumeFault → Type 0
IsNotReadIn (reading.Image error) why f = IsNotRead error why f
IsNotReadIn (reading.OtherSize order) why f = f ≡ fault.OtherSize order

-- why an image is not mounted: a fault holds for it, or memory failed
abbrev pub IsNotMounted : List (List ℕ) → VolumeFault → Type 0
IsNotMounted I (fault.Read why) = ⊥
IsNotMounted I fault.NoMemory = Unit {0}
IsNotMounted I (fault.OtherSize order) = ⊥
IsNotMounted I (fault.Image refusal look) = ⊥
IsNotMounted I (fault.Volume refusal look) = FaultIsTrue I refusal

-- the fault of a mount is handed on: out of memory, or a fault of the image
abbrev pub IsFaultOf : MountFault → VolumeFault → Type 0
IsFaultOf said (fault.Read why) = ⊥
IsFaultOf said fault.NoMemory = said ≡ mount.NoMemory
IsFaultOf said (fault.OtherSize order) = ⊥
IsFaultOf said (fault.Image refusal look) = ⊥
IsFaultOf said (fault.Volume refusal look) = (refusal ≡ said) × (said ≢ mount.NoMemory)

-- how a command ends if there is no volume at its path
abbrev pub IsNoVolume : Bor (List ℕ) → VolumeFault → Stop → Type 0
IsNoVolume path (fault.Read why) s = s ≡ stop.Word path (word.Unread why)
IsNoVolume path fault.NoMemory s = s ≡ stop.NoMemory
IsNoVolume path (fault.OtherSize order) s = s ≡ stop.Word path (word.OtherSize (container_size order))
IsNoVolume path (fault.Image refusal look) s = s ≡ stop.Image path (fault.Image refusal look)
IsNoVolume path (fault.Volume refusal look) s = s ≡ stop.Image path (fault.Volume refusal look)

-- the apparent type of the bytes, if it is known
abbrev pub look_in : VolumeFault → Option Look
look_in (fault.Read why) = None
look_in fault.NoMemory = None
look_in (fault.OtherSize order) = None
look_in (fault.Image refusal look) = look
look_in (fault.Volume refusal look) = look

-- why no image is opened: its file is not read, or its bytes are refused, or their size differs from the specified order
abbrev pub IsNotOpened : VolumeFault → Type 0
IsNotOpened (fault.Read why) = Unit {0}
IsNotOpened fault.NoMemory = Unit {0}
IsNotOpened (fault.OtherSize order) = Unit {0}
IsNotOpened (fault.Image refusal look) = (refusal ≡ image.NotWholeBlocks) ⊎ (refusal ≡ image.TooBig)
IsNotOpened (fault.Volume refusal look) = ⊥

-- the image is shorter than its volume
abbrev pub is_short : Extent → Bool
is_short (extent.Shorter blocks all) = true
is_short (extent.Longer count) = false
is_short (extent.Simh count) = false
is_short (extent.Vhd count) = false

-- the remark on an image: that it is shorter than its volume, and that it is longer if that is reported
abbrev pub said_extent : Bool → Option Extent → Option Extent
said_extent tells_behind None = None
said_extent tells_behind (Some extent) = if tells_behind || is_short extent then Some extent else None

-- the part of an image that can be read, by the remark on the length of its file
abbrev pub IsPartThere : Option Extent → List (List ℕ) → List (List ℕ) → Type 0
IsPartThere (Some (extent.Shorter blocks all)) I part = IsReadablePart I blocks part
IsPartThere (Some (extent.Longer count)) I part = part ≡ I
IsPartThere (Some (extent.Simh count)) I part = part ≡ I
IsPartThere (Some (extent.Vhd count)) I part = part ≡ I
IsPartThere None I part = part ≡ I

-- the file of the host ends before a block of a file of the volume
abbrev pub LacksBlocks : Option Extent → List (List ℕ) → Type 0
LacksBlocks (Some (extent.Shorter blocks all)) I = ¬ HaveBlocksBelow I blocks
LacksBlocks (Some (extent.Longer count)) I = ⊥
LacksBlocks (Some (extent.Simh count)) I = ⊥
LacksBlocks (Some (extent.Vhd count)) I = ⊥
LacksBlocks None I = ⊥
