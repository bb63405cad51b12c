-- What the paths of a host give to a command.
use Rattle.std.specs.Prelude.{◌≡◌, ℕ, List, Option, IfOk, string_bytes}
use Rattle.std.specs.List.{All}
use Rattle.fs_host.specs.declared.host_tree.TreeEntry.{TreeEntry}
use Rattle.ods_space.specs.Files.{IsReadable}
use Rattle.ods_space.specs.Layout.{VolumeLayout}
use Rattle.f11fs.specs.declared.early.Early.{Early}
use Rattle.f11fs.specs.declared.early.OtherImage.{OtherImage}
use Rattle.f11fs.specs.declared.early.Taken.{Taken}

-- what is read from a path: the bytes of a file, what is in a folder and below it, or the blocks of the volume in an image
pub data Given : Type 0 where
  Bytes : List ℕ → Given
  Tree : List TreeEntry → Given
  Volume : List (List ℕ) → Given

-- a path of the host gives this
abbrev pub HostGives : Type 1
HostGives = List ℕ → Given → Type 0

-- the image at this path has a volume of these blocks, whose files this layout locates
abbrev pub GivesVolume : HostGives → List ℕ → List (List ℕ) → VolumeLayout → Type 0
GivesVolume Gives path blocks layout = Gives path (Volume blocks) × IsReadable blocks layout

-- the file gives these bytes, if reading it early did not fail
abbrev pub IsTaken : HostGives → Taken → Type 0
IsTaken Gives one = IfOk one.bytes (λ bytes. Gives (string_bytes one.path) (Bytes bytes.items))

-- the image gives this volume, if reading it early did not fail
abbrev pub IsImageTaken : HostGives → OtherImage → Type 0
IsImageTaken Gives one = IfOk one.opened (λ opened. Gives (string_bytes one.path) (Volume opened.0))

-- the host gave all that was read early
abbrev pub AreTaken : HostGives → Early → Type 0
AreTaken Gives early = All (IsTaken Gives) early.taken.items × All (IsImageTaken Gives) early.images.items
