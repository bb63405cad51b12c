-- Another label of a volume: the home block afterwards, and that all else of the volume is unchanged.
use Rattle.std.specs.Prelude.{◌≡◌, ℕ, ◌<◌, ◌≤◌, ◌⊎◌, List, length, slice_range}
use Rattle.ods_base.specs.Block.{byte, word, sum_of}
use Rattle.ods_base.specs.Image.{block_at}
use Rattle.ods_header.specs.Home.{IsHomeAt}
use Rattle.ods_space.specs.Layout.{Disk, VolumeLayout}
use Rattle.ods_mount.specs.Sound.{IsSoundBy}
use Rattle.ods_request.specs.Catalogue.{Catalogue}
use Rattle.ods_state.specs.Contents.{ShowsBy}
use Rattle.ods_state.specs.Moves.{NothingMoves}
use Rattle.ods_state.specs.Version.{PastIsSpent}
use Rattle.ods_init.specs.Label.{zero_padded}

-- c is the home block b with this label: H.VNAM, bytes 14 to 25, padded with zero bytes, and its copy in bytes 472 to 483, padded with spaces. H.CHK1
-- and H.CHK2 are the checksums of the words before them, and every other byte is unchanged.
pub record IsRelabelled (b label c : List ℕ) : Type 0 where
  pub size : length c ≡ length b
  pub name : slice_range c 14 26 ≡ zero_padded label
  pub copy : slice_range c 472 484 ≡ label
  pub first_sum : word c 29 ≡ sum_of c 29
  pub second_sum : word c 255 ≡ sum_of c 255
  pub others : (i : ℕ) → (i < 14) ⊎ ((26 ≤ i) × (i < 58)) ⊎ ((60 ≤ i) × (i < 472)) ⊎ ((484 ≤ i) × (i < 510)) → byte c i ≡ byte b i

-- the blocks J are the blocks I with this label in the home block
pub record IsLabelled (I : List (List ℕ)) (L : VolumeLayout) (label : List ℕ) (J : List (List ℕ)) : Type 0 where
  -- the home block keeps its LBN, and changes like this; no other block changes
  pub home : (lbn : ℕ) × IsHomeAt I lbn × IsHomeAt J lbn × IsRelabelled (block_at I lbn) label (block_at J lbn)
  pub long : length J ≡ length I
  pub elsewhere : (x : ℕ) → ¬ IsHomeAt I x → block_at J x ≡ block_at I x
  -- the image is sound, and shows the same catalogue
  pub sound : IsSoundBy J L
  pub shown : (C : Catalogue) → ShowsBy I L C → ShowsBy J L C
  -- no past ID can be assigned again
  pub past : (C : Catalogue) → PastIsSpent I L C → PastIsSpent J L C
  -- the blocks of files and the free blocks and numbers are unchanged
  pub moves : NothingMoves (record { image = I; layout = L }) (record { image = J; layout = L })

-- the volume E is the volume D with this label; the layout is unchanged
abbrev pub Relabels : Disk → List ℕ → Disk → Type 0
Relabels D label E = IsLabelled D.image D.layout label E.image × (E.layout ≡ D.layout)
