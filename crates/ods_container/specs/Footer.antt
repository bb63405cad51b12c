-- The footer after a volume, by its first bytes.
use Rattle.std.specs.Prelude.{◌≡◌, List, ℕ, take, codes}
use Rattle.ods_container.specs.declared.footer.Footer.{Footer}
use Rattle.ods_container.specs.declared.footer.Footer.TheVariants.{Simh, Vhd}

-- the bytes begin as this footer does
abbrev pub BeginsAs : List ℕ → Footer → Type 0
BeginsAs bytes Simh = take 4 bytes ≡ codes "simh"
BeginsAs bytes Vhd = take 8 bytes ≡ codes "conectix"
