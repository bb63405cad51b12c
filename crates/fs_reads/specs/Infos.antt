-- The output of `info` for the volume in an image, and its status.
use Rattle.std.specs.Prelude.{◌≡◌, ◌⊎◌, ℕ, Bool, if◌then◌else◌, List, Option, Some, None}
use Rattle.fs_host.specs.declared.containers.Extent.{Extent}
use Rattle.fs_host.specs.declared.containers.Extent.TheVariants as extent
use Rattle.ods_space.specs.Layout.{VolumeLayout}
use Rattle.ods_shell.specs.Info.{IsInfoOf, info_members, info_text}
use Rattle.ods_shell.specs.Json.{object_line}
use Rattle.ods_shell.specs.declared.info.Info.{Info}
use Rattle.ods_shell.specs.declared.status.Status.{Status}
use Rattle.ods_shell.specs.declared.status.Status.TheVariants as status

-- how many bytes of an image come past its volume, by the remark on it
abbrev pub bytes_behind : Option Extent → ℕ
bytes_behind None = 0
bytes_behind (Some (extent.Longer count)) = count
bytes_behind (Some (extent.Simh count)) = count
bytes_behind (Some (extent.Vhd count)) = count
bytes_behind (Some (extent.Shorter blocks all)) = 0

-- the text for the volume in the image at this path, as an object or as lines
abbrev pub ShowsInfo : List (List ℕ) → VolumeLayout → Bool → List ℕ → ℕ → List ℕ → List ℕ → Type 0
ShowsInfo I L json path behind answer text = (info : Info) × IsInfoOf I L info
    × (text ≡ (if json then object_line (info_members path info L.index behind answer) else info_text info L.index behind answer))

-- the status: the volume is sound, or the image is refused
abbrev pub EndsInfo : Type 0 → Status → Type 0
EndsInfo IsSound s = ((s ≡ status.Done) × IsSound) ⊎ (s ≡ status.Image)
