-- INDEXF.SYS grows before the request is carried out: the blocks in between, and the laws by which a step after the growth is a step.
use Rattle.std.specs.Prelude.{◌≡◌, ◌≢◌, ℕ, ◌/◌, ◌-◌, ◌≤◌, List, [], ◌∷◌, length, take, drop, None}
use Rattle.std.specs.List.{All, Contains}
use Rattle.ods_base.specs.Block.{zeros}
use Rattle.ods_base.specs.Image.{IsImage, block_at}
use Rattle.ods_base.specs.declared.file_id.Uic.{Uic}
use Rattle.ods_header.specs.Header.{room_of}
use Rattle.ods_header.specs.Pointing.{IsWithRuns}
use Rattle.ods_space.specs.Layout.{VolumeLayout, header_at, most_index_blocks, with_places}
use Rattle.ods_space.specs.Free.{free_blocks}
use Rattle.ods_alloc.specs.Extend.{cut}
use Rattle.ods_alloc.specs.Zeroed.{AppendsBlocks}
use Rattle.ods_mount.specs.Sound.{IsSoundBy}
use Rattle.ods_request.specs.declared.requests.Request.{Request}
use Rattle.ods_request.specs.declared.answers.Answer.{Answer}
use Rattle.ods_request.specs.Catalogue.{Catalogue}
use Rattle.ods_state.specs.Contents.{ShowsBy}
use Rattle.ods_state.specs.Served.{IsStepOf}
use Rattle.ods_state.specs.Version.{PastIsSpent}
use Rattle.ods_state.specs.Wants.{Wants, index_blocks, index_end, index_growth, lack_of, allocated_blocks, allocated_numbers}

-- K is I with INDEXF.SYS grown by these blocks: they are zeros and marked as used, its last header has pointers to them after its own, and no other
-- block changes
abbrev pub GrowsIndex : List (List ℕ) → VolumeLayout → List ℕ → List (List ℕ) → Type 0
GrowsIndex I L blocks K = AppendsBlocks I L (index_end I L) blocks K

-- INDEXF.SYS can grow by these blocks: they are free, at most the number that it can have, and its last header has room for their pointers
pub record CanGrowIndex (I : List (List ℕ)) (L : VolumeLayout) (blocks : List ℕ) : Type 0 where
  pub before : ℕ
  pub free : blocks ≡ take (length blocks) (drop before (free_blocks I L))
  pub fits : length blocks ≤ most_index_blocks L.home - length L.index
  pub room : length (cut blocks) ≤ room_of (header_at I L (index_end I L)) / 2

-- a sound image stays sound after the growth, by the layout with these LBNs, and shows the same catalogue; no ID of the past can be assigned again
abbrev pub GrownIndexIsSound : Type 0
GrownIndexIsSound = (I K : List (List ℕ)) (L : VolumeLayout) (blocks : List ℕ) → IsImage I → IsSoundBy I L → CanGrowIndex I L blocks → GrowsIndex I L blocks K
    → IsSoundBy K (with_places L blocks) × ((C : Catalogue) → ShowsBy I L C → ShowsBy K (with_places L blocks) C)
    × ((C : Catalogue) → PastIsSpent I L C → PastIsSpent K (with_places L blocks) C)

-- After the growth a request needs the same blocks and numbers, each number has a block, and the volume lacks nothing.
pub record WantsTheSame (I : List (List ℕ)) (L : VolumeLayout) (headers : List ℕ) (count : ℕ) (K : List (List ℕ)) (M : VolumeLayout) : Type 0 where
  pub blocks : allocated_blocks K M count ≡ allocated_blocks I L count
  pub numbers : allocated_numbers K M headers count ≡ allocated_numbers I L headers count
  pub no_growth : index_growth M (allocated_numbers K M headers count) ≡ 0
  pub enough : lack_of K M headers count ≡ None

-- a file with these headers is neither INDEXF.SYS nor BITMAP.SYS
abbrev pub IsNoMap : List ℕ → Type 0
IsNoMap headers = (n : ℕ) (others : List ℕ) → headers ≡ n ∷ others → 3 ≤ n

-- What a request needs when INDEXF.SYS has to grow for it, and the grown volume K.
pub record IsGrownFor (I : List (List ℕ)) (L : VolumeLayout) (r : Request) (headers old : List ℕ) (count : ℕ) (K : List (List ℕ)) : Type 0 where
  pub image : IsImage I
  pub sound : IsSoundBy I L
  pub wants : Wants I L r headers old count
  pub file : IsNoMap headers
  pub enough : lack_of I L headers count ≡ None
  pub some : index_blocks I L headers count ≢ []
  pub grows : GrowsIndex I L (index_blocks I L headers count) K

-- the request needs the same in the grown volume
abbrev pub WantsStay : Type 0
WantsStay = (I K : List (List ℕ)) (L : VolumeLayout) (r : Request) (headers old : List ℕ) (count : ℕ) → IsGrownFor I L r headers old count K
    → WantsTheSame I L headers count K (with_places L (index_blocks I L headers count))

-- a step of the grown volume is a step of the volume before the growth
abbrev pub StepBehindGrowth : Type 0
StepBehindGrowth = (I K J : List (List ℕ)) (L : VolumeLayout) (who : Uic) (r : Request) (a : Answer) (headers old : List ℕ) (count : ℕ)
    → IsGrownFor I L r headers old count K
    → IsStepOf K (with_places L (index_blocks I L headers count)) who r a J (with_places L (index_blocks I L headers count))
    → IsStepOf I L who r a J (with_places L (index_blocks I L headers count))
