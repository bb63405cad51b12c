-- The order in which the sectors of a volume are read from a file, and the file of a floppy with another volume.
use Rattle.std.specs.Prelude.{◌≡◌, ◌≢◌, ◌⊎◌, ℕ, ◌+◌, ◌*◌, ◌/◌, List, ◌++◌, length, take, Option, Some, None}
use Rattle.std.specs.Option.{option_map}
use Rattle.ods_base.specs.Image.{IsImage, image_bytes}
use Rattle.ods_container.specs.Container.{IsContained}
use Rattle.ods_header.specs.Home.{IsHomeAt, HasNoHome}
use Rattle.ods_order.specs.Order.{block_count, container_size}
use Rattle.ods_order.specs.Volumes.{IsLaidOut, IsVolumeOf, volume_of}
use Rattle.ods_order.specs.declared.order.Order.{Order}
use Rattle.ods_base.specs.declared.faults.ImageError.{ImageError}
use Rattle.fs_host.specs.declared.layers.Layers.{Layers}
use Rattle.fs_host.specs.declared.layers.Layers.TheVariants.{Found, Plain, Physical}
use Rattle.fs_host.specs.declared.layers.ReadFault.{ReadFault}
use Rattle.fs_host.specs.declared.layers.ReadFault.TheVariants.{Image as NoImage, OtherSize}

-- the image has a home block
abbrev pub HasHome : List (List ℕ) → Type 0
HasHome I = (lbn : ℕ) × IsHomeAt I lbn

-- the image is the whole blocks of these bytes, in their order
abbrev pub IsPlain : List ℕ → List (List ℕ) → Type 0
IsPlain bytes I = IsImage I × (image_bytes I ≡ take (512 * (length bytes / 512)) bytes)

-- a home block is found in the bytes in their order, or none is
abbrev pub HasPlainHome : List ℕ → Type 0
HasPlainHome bytes = (I : List (List ℕ)) × IsPlain bytes I × HasHome I

abbrev pub LacksPlainHome : List ℕ → Type 0
LacksPlainHome bytes = (I : List (List ℕ)) × IsPlain bytes I × HasNoHome I

-- a home block is found if the sectors are in this order, or none is: the bytes may have another size
abbrev pub HasHomeIn : Order → List ℕ → Type 0
HasHomeIn order bytes = (I : List (List ℕ)) × IsVolumeOf order bytes I × HasHome I

abbrev pub LacksHomeIn : Order → List ℕ → Type 0
LacksHomeIn order bytes = (length bytes ≢ container_size order) ⊎ ((I : List (List ℕ)) × IsVolumeOf order bytes I × HasNoHome I)

-- The order in which a home block is found. Bytes are plain if it is found in their order, or in no order.
abbrev pub IsFoundIn : List ℕ → Option Order → Type 0
IsFoundIn bytes (Some order) = LacksPlainHome bytes × HasHomeIn order bytes
IsFoundIn bytes None = HasPlainHome bytes ⊎ ((order : Order) → LacksHomeIn order bytes)

-- The order that is used for these bytes of a file of size `told`: the specified order, otherwise the one in which a home block is found, in a file
-- as long as a floppy.
abbrev pub IsTaken : Layers → ℕ → List ℕ → Option Order → Type 0
IsTaken Plain told bytes order = order ≡ None
IsTaken (Physical said) told bytes order = order ≡ Some said
IsTaken Found told bytes order =
    (((floppy : Order) → told ≢ container_size floppy) × (order ≡ None))
    ⊎ (((floppy : Order) × (told ≡ container_size floppy)) × IsFoundIn bytes order)

-- the bytes of the volume, in their order or in the order of a floppy
abbrev pub ordered : Option Order → List ℕ → List ℕ
ordered None bytes = bytes
ordered (Some order) bytes = volume_of order bytes

-- the bytes are as long as a floppy of this order
abbrev pub HasSizeOf : Option Order → List ℕ → Type 0
HasSizeOf None bytes = Unit {0}
HasSizeOf (Some order) bytes = length bytes ≡ container_size order

-- the kept part of a floppy: its order, and its bytes
abbrev pub floppy_of : Option Order → List ℕ → Option (Order × List ℕ)
floppy_of order bytes = option_map (λ o. (o, bytes)) order

-- With the bytes in this order, the volume is I, with other bytes after it, n bytes long in total.
abbrev pub IsVolumeIn : Option Order → List ℕ → Option ℕ → List (List ℕ) → List ℕ → ℕ → Type 0
IsVolumeIn order bytes given I behind n = HasSizeOf order bytes × IsContained (ordered order bytes) given I behind n

-- The volume I is read from a file, and the floppy is kept if its sectors are in physical order.
abbrev pub IsReadIn : Layers → ℕ → Option ℕ → List (List ℕ) → List ℕ → ℕ → Option (Order × List ℕ) → Type 0
IsReadIn layers told given I behind n floppy =
    (bytes : List ℕ) × (order : Option Order) × IsTaken layers told bytes order × (IsVolumeIn order bytes given I behind n × (floppy ≡ floppy_of order bytes))

-- `blocks` blocks and `behind` bytes do not fill the sectors of the volume
abbrev pub DoesNotFit : Order → ℕ → ℕ → Type 0
DoesNotFit order blocks behind = 512 * blocks + behind ≢ 512 * block_count order

-- the kept part has this volume now, with these bytes after it: on a floppy only the sectors of the volume change
abbrev pub IsLaidIn : List (List ℕ) → List ℕ → Option (Order × List ℕ) → Option (Order × List ℕ) → Type 0
IsLaidIn I behind None new = new ≡ None
IsLaidIn I behind (Some old) new = (floppy : Order × List ℕ) × (new ≡ Some floppy) × ((floppy.0 ≡ old.0) × IsLaidOut old.0 old.1 (image_bytes I ++ behind) floppy.1)

-- nothing is written, since the volume does not fit
abbrev pub IsUnfit : List (List ℕ) → List ℕ → Option (Order × List ℕ) → Type 0
IsUnfit I behind None = ⊥
IsUnfit I behind (Some old) = DoesNotFit old.0 (length I) (length behind)

-- the fault belongs to an image: its file is not read, or its bytes are refused
abbrev pub IsOfImage : ReadFault → Type 0
IsOfImage (NoImage fault) = Unit {0}
IsOfImage (OtherSize order) = ⊥

-- The reason why a file of size `told` is not read. Only a floppy whose order is specified, or whose size is that of a floppy, may have another
-- size.
abbrev pub MayNotBeRead : Layers → ℕ → ReadFault → Type 0
MayNotBeRead layers told (NoImage fault) = Unit {0}
MayNotBeRead Plain told (OtherSize order) = ⊥
MayNotBeRead (Physical said) told (OtherSize order) = order ≡ said
MayNotBeRead Found told (OtherSize order) = told ≡ container_size order
