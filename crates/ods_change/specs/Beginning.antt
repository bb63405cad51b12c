-- The start of a request that takes blocks: the volume after INDEXF.SYS has grown, or the unchanged volume.
use Rattle.std.specs.Prelude.{◌≡◌, ◌≢◌, ◌⊎◌, ℕ, List, []}
use Rattle.ods_base.specs.Image.{IsImage}
use Rattle.ods_space.specs.Layout.{VolumeLayout, with_places}
use Rattle.ods_state.specs.IndexGrowth.{GrowsIndex}

-- K and M are the blocks I and the layout L after INDEXF.SYS gained these blocks; if there are none, they are I and L
pub record IsBegun (I : List (List ℕ)) (L : VolumeLayout) (places : List ℕ) (K : List (List ℕ)) (M : VolumeLayout) : Type 0 where
  pub layout : M ≡ with_places L places
  pub image : IsImage K
  pub blocks : ((places ≡ []) × (K ≡ I)) ⊎ ((places ≢ []) × GrowsIndex I L places K)
