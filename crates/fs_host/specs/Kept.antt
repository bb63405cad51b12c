-- The facts of its file that a locked image keeps.
use Rattle.std.specs.Prelude.{◌≡◌, ℕ, Bool, List, Option, string_bytes, is_some}
use Rattle.ods_order.specs.declared.order.Order.{Order}
use Rattle.fs_host.specs.declared.containers.Extent.{Extent}
use Rattle.fs_host.specs.declared.saving.Locked.{Locked}

-- the bytes after the volume that was read
abbrev pub bytes_kept : Locked → List ℕ
bytes_kept locked = locked.behind.items

-- the remark on its length
abbrev pub remark_kept : Locked → Option Extent
remark_kept locked = locked.extent

-- the order and the bytes of a floppy in physical order
abbrev pub floppy_kept : Locked → Option (Order × List ℕ)
floppy_kept locked = locked.floppy

-- the image is a floppy in physical order
abbrev pub is_floppy : Locked → Bool
is_floppy locked = is_some (floppy_kept locked)

-- the bits of its mode
abbrev pub mode_kept : Locked → ℕ
mode_kept locked = locked.mode

-- another process may have it open
abbrev pub force_kept : Locked → Bool
force_kept locked = locked.force

-- its path
abbrev pub path_kept : Locked → List ℕ
path_kept locked = string_bytes locked.path

-- its size when it was locked
abbrev pub size_kept : Locked → ℕ
size_kept locked = locked.mark.size

-- how many processes may have it open that were not looked at
abbrev pub unseen_kept : Locked → ℕ
unseen_kept locked = locked.unseen

-- everything is unchanged except the position in the file, and the volume on a floppy
abbrev pub KeepsAll : Locked → Locked → Type 0
KeepsAll old new =
    (bytes_kept new ≡ bytes_kept old) × (remark_kept new ≡ remark_kept old) × (mode_kept new ≡ mode_kept old)
    × (is_floppy new ≡ is_floppy old) × (force_kept new ≡ force_kept old) × (path_kept new ≡ path_kept old) × (size_kept new ≡ size_kept old)
