-- Relations of contracts about a disk, which is blocks with their layout: as the blocks are, or as a draft changes them.
use Rattle.std.specs.Prelude.{ℕ, List}
use Rattle.ods_space.specs.Draft.{Changes, applied}
use Rattle.ods_space.specs.Layout.{VolumeLayout, header_at}
use Rattle.ods_space.specs.declared.disk.Disk.{Disk}

-- the relation holds for the blocks and the layout of this disk
abbrev pub on : {A : Type 1} → (List (List ℕ) → VolumeLayout → A) → Disk → A
on P D = P D.image.now D.layout.now

-- the value of a function of blocks and their layout on this disk
abbrev pub seen : {A : Type 0} → (List (List ℕ) → VolumeLayout → A) → Disk → A
seen f D = f D.image.now D.layout.now

-- the block of header n on this disk
abbrev pub header_on : Disk → ℕ → List ℕ
header_on D n = header_at D.image.now D.layout.now n

-- the relation holds for the blocks of the disk after this draft is applied, by the layout of the disk
abbrev pub drafted : {A : Type 1} → (List (List ℕ) → VolumeLayout → A) → Disk → Changes → A
drafted P D d = P (applied D.image.now d) D.layout.now

-- the block of header n after this draft is applied
abbrev pub header_drafted : Disk → Changes → ℕ → List ℕ
header_drafted D d n = header_at (applied D.image.now d) D.layout.now n
