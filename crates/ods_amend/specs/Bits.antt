-- Blocks that the storage bitmap marks as free or in use, while no file changes.
use Rattle.std.specs.Prelude.{◌≡◌, ◌↔◌, ℕ, ◌<◌, Bool, if◌then◌else◌, List, length, IsTrue}
use Rattle.ods_base.specs.Image.{block_at}
use Rattle.ods_header.specs.Home.{IsHomeAt, IsHomePlace}
use Rattle.ods_space.specs.Layout.{Disk, VolumeLayout, header_at}
use Rattle.ods_space.specs.Files.{HasBlocks, Holds}
use Rattle.ods_space.specs.Free.{is_covered, is_free_block, is_free_number}
use Rattle.ods_alloc.specs.Extend.{IsStorageBitmap, is_one_of}
use Rattle.ods_mount.specs.Sound.{IsSoundBy}
use Rattle.ods_request.specs.Catalogue.{Catalogue}
use Rattle.ods_state.specs.Contents.{ShowsBy}
use Rattle.ods_state.specs.Version.{PastIsSpent}

-- No file holds the block at x, and x is not a place before the home block where a mount searches for a home block.
pub record IsLoose (I : List (List ℕ)) (L : VolumeLayout) (x : ℕ) : Type 0 where
  pub unheld : (m v : ℕ) → ¬ Holds I L m v x
  pub behind : (h : ℕ) → IsHomeAt I h → IsHomePlace x → ¬ (x < h)

-- the blocks J are the blocks I after the storage bitmap marked these as free or as in use, as far as it covers them
pub record AreMarked (I : List (List ℕ)) (L : VolumeLayout) (blocks : List ℕ) (free : Bool) (J : List (List ℕ)) : Type 0 where
  -- the image is sound, and shows the same catalogue
  pub sound : IsSoundBy J L
  pub shown : (C : Catalogue) → ShowsBy I L C → ShowsBy J L C
  -- no past ID can be assigned again
  pub past : (C : Catalogue) → PastIsSpent I L C → PastIsSpent J L C
  -- the blocks of files, the headers and the free numbers are unchanged
  pub held : (m v x : ℕ) → Holds I L m v x ↔ Holds J L m v x
  pub kept : (m : ℕ) (bs : List ℕ) → HasBlocks I L m bs → HasBlocks J L m bs
  pub headers : (m : ℕ) → header_at J L m ≡ header_at I L m
  pub numbers : (m : ℕ) → is_free_number J L m ≡ is_free_number I L m
  -- the bit of each block that the bitmap covers
  pub bits : (x : ℕ) → x < length I → IsTrue (is_covered L x) → is_free_block J L x ≡ (if is_one_of blocks x then free else is_free_block I L x)
  -- no other block changes
  pub long : length J ≡ length I
  pub elsewhere : (x : ℕ) → ¬ IsStorageBitmap L x → block_at J x ≡ block_at I x

-- the volume E is the volume D after the storage bitmap marked these blocks; the layout is unchanged
abbrev pub MarksAs : Disk → List ℕ → Bool → Disk → Type 0
MarksAs D blocks free E = AreMarked D.image D.layout blocks free E.image × (E.layout ≡ D.layout)
