-- The definition of a new volume.
use Rattle.std.specs.Prelude.{◌≡◌, ℕ, ◌<◌, ◌≤◌, ◌^◌, List, length, Some}
use Rattle.ods_base.specs.Image.{IsImage, block_at}
use Rattle.ods_init.specs.declared.blueprint.Blueprint.{Blueprint}
use Rattle.ods_init.specs.declared.volume.NewVolume.{NewVolume}
use Rattle.ods_init.specs.declared.volume.InitFault.{InitFault}
use Rattle.ods_init.specs.declared.volume.InitFault.TheVariants.{TooSmall, TooLarge, TooManyFiles, NoMemory}
use Rattle.ods_mount.specs.Faults.{IsSound}
use Rattle.ods_init.specs.Places.{places, HasRoom}
use Rattle.ods_init.specs.Blocks.{IsNewBlock}

-- the image is that of the blueprint: its number of blocks, and the right block at each LBN
pub record IsVolumeOf (W : Blueprint) (I : List (List ℕ)) : Type 0 where
  pub image : IsImage I
  pub size : length I ≡ W.blocks
  pub each : (lbn : ℕ) → lbn < W.blocks → IsNewBlock W lbn (block_at I lbn)

-- the blueprint of a new volume: with its label and its stamp, and zeros in its free blocks
abbrev pub blueprint_of : NewVolume → Blueprint
blueprint_of V = record { blocks = V.blocks; places = places V.blocks V.files; owner = V.owner; details = Some (record { label = V.label; stamp = V.stamp }); filling = 0 }

-- the image is that of the new volume
abbrev pub IsNewVolume : NewVolume → List (List ℕ) → Type 0
IsNewVolume V I = IsVolumeOf (blueprint_of V) I

-- there is a new volume of this kind: its number of blocks is valid, and the structures fit
pub record IsPossible (V : NewVolume) : Type 0 where
  pub least : 40 ≤ V.blocks
  pub most : V.blocks ≤ 2 ^ 20
  pub room : HasRoom V.blocks V.files

-- no fault holds for a new volume
abbrev pub NewIsSound : Type 0
NewIsSound = (V : NewVolume) (I : List (List ℕ)) → IsPossible V → IsNewVolume V I → IsSound I

-- Why there is no new volume: each fault only if it holds, and NoMemory only if there could be one.
abbrev pub IsInitFault : NewVolume → InitFault → Type 0
IsInitFault V TooSmall = V.blocks < 40
IsInitFault V TooLarge = 2 ^ 20 < V.blocks
IsInitFault V TooManyFiles = (40 ≤ V.blocks) × (V.blocks ≤ 2 ^ 20) × ¬ HasRoom V.blocks V.files
IsInitFault V NoMemory = IsPossible V
