-- What the checks find, taken together, is what a sound image has.
use Rattle.std.proofs.Common.{◌≡◌, ◌≢◌, ℕ, ◌-◌, ◌<◌, ◌≤◌, ◌⊎◌, false, List, ◌∷◌, slice_get, Some, inl, inr, ap, ◌∙◌, subst, arith}
use Rattle.std.specs.List.{Contains}
use Rattle.std.proofs.lemmas.Bool.{both_ways}
use Rattle.std.proofs.lemmas.Option.{slice_get-get_or}
use Rattle.ods_header.specs.Home.{IsHomeAt, IsHomePlace}
use Rattle.ods_space.specs.Layout.{VolumeLayout}
use Rattle.ods_space.specs.Chain.{IsChain}
use Rattle.ods_space.specs.Files.{IsFile, HasBlocks, Holds}
use Rattle.ods_space.specs.Free.{is_free_block}
use Rattle.ods_directory.specs.Names.{IsDirectory}
use Rattle.ods_mount.specs.Faults.{IsDirectoryFile, contents_of, mark_at, CouldBeWritten}
use Rattle.ods_mount.specs.Checks.{IsChecked}
use Rattle.ods_mount.specs.Sound.{IsSoundBy}
use Rattle.ods_space.proofs.Surveyed.{same_blocks}
use Rattle.ods_mount.proofs.Layouts.{same_place}

module _ (I : List (List ℕ)) (L : VolumeLayout) (c : IsChecked I L) where
  home_block : (lbn : ℕ) → IsHomeAt I lbn → (slice_get L.index 0 ≡ Some lbn) ⊎ (slice_get L.index 1 ≡ Some lbn)
  home_block lbn at =
      let P : ℕ → Type 0 = λ x. (slice_get L.index 0 ≡ Some x) ⊎ (slice_get L.index 1 ≡ Some x) in
      subst P (same_place I c.home lbn c.home_at at) c.index.home_block

  -- block i of file n, which is a lower place of a home block, is one that no request changes
  fixed : (n v k : ℕ) → Holds I L n v k → IsHomePlace k → k < c.home → n ≢ 3 → n ≢ 5 → ¬ ((n ≡ 1) × (v ≤ 2)) → ⊥
  fixed n v k held place below other3 other5 other1 =
      let file = c.files n held.file.file in
      let same : held.blocks ≡ file.blocks = same_blocks I L n held.blocks file.blocks held.file file.has in
      let P : List ℕ → Type 0 = λ xs. slice_get xs (v - 1) ≡ Some k in
      let first = held.first in
      elim (file.no_place (v - 1) k (subst P same held.named) place below) [
        | inl three ↦ other3 three
        | inr (inl five) ↦ other5 five
        | inr (inr one) ↦ other1 (one.0, let low = one.1 in omega arith)
      ]

  home_stays : (lbn k : ℕ) → IsHomeAt I lbn → IsHomePlace k → k < lbn → ¬ CouldBeWritten I L k
  home_stays lbn k at place below written =
      let P : ℕ → Type 0 = λ x. k < x in
      let low : k < c.home = subst P (same_place I lbn c.home at c.home_at) below in
      elim written [
        | inl free ↦ both_ways _ (c.no_place k place low) free
        | inr (n, v, held, other3, other5, other1) ↦ fixed n v k held place low other3 other5 other1
      ]

  not_free : (n v b : ℕ) → Holds I L n v b → is_free_block I L b ≡ false
  not_free n v b held =
      let file = c.files n held.file.file in
      let P : List ℕ → Type 0 = λ xs. slice_get xs (v - 1) ≡ Some b in
      file.not_free (v - 1) b (subst P (same_blocks I L n held.blocks file.blocks held.file file.has) held.named)

  directories : (n : ℕ) (blocks : List ℕ) → IsDirectoryFile I L n → HasBlocks I L n blocks → IsDirectory (contents_of I blocks) (mark_at I L n blocks)
  directories n blocks dir has =
      let file = c.files n has.file in
      let P : List ℕ → Type 0 = λ xs. IsDirectory (contents_of I xs) (mark_at I L n xs) in
      subst P (same_blocks I L n file.blocks blocks file.has has) (file.directory dir)

  apart : (m n : ℕ) (ms ns cs bs : List ℕ) (x : ℕ) → IsFile I L m → IsFile I L n → IsChain I L m ms cs → IsChain I L n ns bs → Contains (m ∷ ms) x → Contains (n ∷ ns) x → m ≡ n
  apart m n ms ns cs bs x mfile nfile mchain nchain (i, ilow, ix) (j, jlow, jx) =
      let mx : slice_get (m ∷ ms) i ≡ Some x = slice_get-get_or (m ∷ ms) i x ilow ∙ ap Some ix in
      let nx : slice_get (n ∷ ns) j ≡ Some x = slice_get-get_or (n ∷ ns) j x jlow ∙ ap Some jx in
      c.apart m n i j x
      (record { file = mfile; others = ms; blocks = cs; chain = mchain; named = mx })
      (record { file = nfile; others = ns; blocks = bs; chain = nchain; named = nx })

  -- the image is sound by this layout
  pub sound_by : IsSoundBy I L
  sound_by = record {
    layout = c.layout;
    index_bitmap_size = c.index.size;
    index_place = c.index.place;
    home_block = home_block;
    home_stays = home_stays;
    bitmap_size = c.bitmap_size;
    master = c.master;
    formats = c.formats;
    chains = λ n file. let f = c.files n file in (f.blocks, f.has);
    apart = apart;
    once = c.once;
    not_free = not_free;
    directories = directories;
  }
