-- The volume in a host file, and the remark on a file that is longer or shorter than its volume.
use Rattle.std.specs.Prelude.{◌≡◌, ◌≢◌, ℕ, ◌*◌, ◌/◌, ◌%◌, ◌^◌, ◌<◌, ◌≤◌, List, [], length, Option, Some, None, ◌⊎◌}
use Rattle.ods_base.specs.declared.faults.ImageError.{ImageError}
use Rattle.ods_base.specs.declared.faults.ImageError.TheVariants.{ReadFailed}
use Rattle.ods_container.specs.Container.{IsNotContained}
use Rattle.ods_container.specs.Footer.{BeginsAs}
use Rattle.ods_container.specs.declared.footer.Footer.{Footer}
use Rattle.ods_container.specs.declared.footer.Footer.TheVariants.{Simh as FooterSimh, Vhd as FooterVhd}
use Rattle.fs_host.specs.declared.containers.Extent.{Extent}
use Rattle.fs_host.specs.declared.containers.Extent.TheVariants.{Longer, Simh, Vhd, Shorter}

-- The remark on a file of n bytes whose volume has S blocks, with these bytes after it. There is none if the volume fills the file.
abbrev pub IsRemark : ℕ → ℕ → List ℕ → Option Extent → Type 0
IsRemark n S behind None = (512 * S ≤ n) × (behind ≡ [])
IsRemark n S behind (Some (Shorter blocks all)) = (n < 512 * S) × (blocks ≡ n / 512) × (all ≡ S)
IsRemark n S behind (Some (Simh count)) = (512 * S ≤ n) × (behind ≢ []) × (count ≡ length behind) × BeginsAs behind FooterSimh
IsRemark n S behind (Some (Vhd count)) = (512 * S ≤ n) × (behind ≢ []) × (count ≡ length behind) × BeginsAs behind FooterVhd
IsRemark n S behind (Some (Longer count)) = (512 * S ≤ n) × (behind ≢ []) × (count ≡ length behind) × ((footer : Footer) → ¬ BeginsAs behind footer)

-- the remark states that the file is shorter than its volume
abbrev pub SaysShort : Extent → Type 0
SaysShort (Shorter blocks all) = Unit {0}
SaysShort (Simh count) = ⊥
SaysShort (Vhd count) = ⊥
SaysShort (Longer count) = ⊥

-- a file at its start reads as all its bytes
abbrev pub ReadsWhole : {F : Type 0} → (F → Option (List ℕ)) → (F → Option ℕ) → (F → Option (List ℕ)) → Type 0
ReadsWhole {F} remaining position bytes = (file : F) (all : List ℕ) → position file ≡ Some 0 → bytes file ≡ Some all → remaining file ≡ Some all

-- these bytes are the blocks of an image in their order
abbrev pub AreBlocks : List ℕ → Type 0
AreBlocks bytes = (length bytes ≤ 2 ^ 29) × (length bytes % 512 ≡ 0)

-- the reason why no volume is found in these bytes: a read or a seek failed, or they contain none
abbrev pub IsNotFound : List ℕ → Option ℕ → ImageError → Type 0
IsNotFound bytes given fault = (fault ≡ ReadFailed) ⊎ IsNotContained bytes given fault
