-- The apparent type of a host file that is not the image of a volume: by its first bytes, otherwise by its length.
use Rattle.std.specs.Prelude.{ℕ, ◌==◌, ◌||◌, Bool, List, ◌∷◌, [], Option, Some, None, codes, drop, if◌then◌else◌}
use Rattle.std.specs.List.{starts_with}
use Rattle.fs_reads.specs.declared.looks.Look.{Look}
use Rattle.fs_reads.specs.declared.looks.Look.TheVariants as look

-- whether these bytes are stored from this offset on
abbrev pub stands : List ℕ → ℕ → List ℕ → Bool
stands text at bytes = starts_with (λ x y. x == y) (drop at bytes) text

-- whether these are the first bytes of an xz, bzip2, zstd or 7-Zip file
abbrev pub is_packed : List ℕ → Bool
is_packed bytes = stands (253 ∷ 55 ∷ 122 ∷ 88 ∷ 90 ∷ 0 ∷ []) 0 bytes || (stands (codes "BZh") 0 bytes
    || (stands (40 ∷ 181 ∷ 47 ∷ 253 ∷ []) 0 bytes || stands (55 ∷ 122 ∷ 188 ∷ 175 ∷ 39 ∷ 28 ∷ []) 0 bytes))

-- the first mark that is stored at its offset; marks of home blocks are stored at byte 496 of block 1, and that of an archive at byte 257
abbrev pub look_of_front : List ℕ → Option Look
look_of_front bytes =
    if stands (31 ∷ 139 ∷ []) 0 bytes then Some look.Gzip
    else if stands (80 ∷ 75 ∷ 3 ∷ 4 ∷ []) 0 bytes then Some look.Zip
    else if is_packed bytes then Some look.Packed
    else if stands (codes "ustar") 257 bytes then Some look.Tar
    else if stands (codes "conectix") 0 bytes then Some look.Vhd
    else if stands (codes "IMD ") 0 bytes then Some look.Imd
    else if stands (84 ∷ 68 ∷ 0 ∷ []) 0 bytes then Some look.TeleDisk
    else if stands (116 ∷ 100 ∷ 0 ∷ []) 0 bytes then Some look.TeleDisk
    else if stands (codes "DECRT11A") 1008 bytes then Some look.Rt11
    else if stands (codes "DECFILE11B") 1008 bytes then Some look.Ods2
    else if stands (codes "DECFILE11A") 1008 bytes then Some look.Home
    else None

-- the floppy disk whose sectors have exactly this number of bytes
abbrev pub look_of_length : ℕ → Option Look
look_of_length length =
    if length == 256256 then Some look.Rx01
    else if length == 512512 then Some look.Rx02
    else if length == 409600 then Some look.Rx50
    else None

-- the first of two if it exists, otherwise the second
abbrev pub first_of : Option Look → Option Look → Option Look
first_of (Some look) other = Some look
first_of None other = other

-- the apparent type of a file of this length with these first bytes
abbrev pub look_of : List ℕ → ℕ → Option Look
look_of bytes length = if length == 0 then Some look.Empty else first_of (look_of_front bytes) (look_of_length length)
