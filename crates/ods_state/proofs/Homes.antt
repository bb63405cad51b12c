-- Where blocks change that a request may write, the home block stays; and with files 1 and 2 so does the layout.
use Rattle.std.proofs.Common.{◌≡◌, ℕ, ◌+◌, ◌<◌, ap, sym, ◌∙◌, subst, true, false, List, length, Some, arith, inl, inr}
use Rattle.std.specs.Prelude.{◌⊎◌, slice_get}
use Rattle.ods_mount.proofs.Each.{holds_at}
use Rattle.ods_mount.proofs.Layouts.{same_place}
use Rattle.ods_base.specs.Image.{block_at}
use Rattle.ods_header.specs.Home.{IsHome, home_of, IsHomeAt, IsHomePlace}
use Rattle.ods_space.specs.Layout.{VolumeLayout}
use Rattle.ods_space.specs.Files.{HasBlocks, Holds, IsLayoutOf}
use Rattle.ods_mount.specs.Faults.{CouldBeWritten}
use Rattle.ods_mount.specs.Sound.{IsSoundBy}

module _ (I J : List (List ℕ)) (L : VolumeLayout) (S : IsSoundBy I L) (long : length J ≡ length I) (elsewhere : (x : ℕ) → (block_at J x ≡ block_at I x) ⊎ CouldBeWritten I L x) where
  -- no request may write the first two blocks of INDEXF.SYS
  is_safe : (k lbn : ℕ) → k < 2 → slice_get L.index k ≡ Some lbn → ¬ CouldBeWritten I L lbn
  is_safe k lbn low e = by
    where
      own : Holds I L 1 (k + 1) lbn
      own = holds_at I L 1 L.index k lbn S.layout.index e

      by : ¬ CouldBeWritten I L lbn
      by (inl free) = let wrong : true ≡ false = sym free ∙ S.not_free 1 (k + 1) lbn own in absurd (cc)
      by (inr w) =
          let same = S.once w.0 1 w.1 (k + 1) lbn w.2 own in
          let place : w.1 ≡ k + 1 = same.1 in
          w.5 (same.0, omega arith)

  pub home_here : (lbn : ℕ) → IsHomeAt I lbn → block_at J lbn ≡ block_at I lbn
  home_here lbn h = by (elsewhere lbn) (S.home_block lbn h)
    where
      by : (block_at J lbn ≡ block_at I lbn) ⊎ CouldBeWritten I L lbn → (slice_get L.index 0 ≡ Some lbn) ⊎ (slice_get L.index 1 ≡ Some lbn) → block_at J lbn ≡ block_at I lbn
      by (inl same) place = same
      by (inr w) (inl e) = absurd (is_safe 0 lbn (omega arith) e w)
      by (inr w) (inr e) = absurd (is_safe 1 lbn (omega arith) e w)

  pub home_stays_at : (lbn : ℕ) → IsHomeAt I lbn → IsHomeAt J lbn
  home_stays_at lbn h = record {
    place = h.place;
    inside = subst (λ n. lbn < n) (sym long) h.inside;
    home = subst IsHome (sym (home_here lbn h)) h.home;
    least = λ k place below inside home. none k place below inside home (elsewhere k);
  }
    where
      none : (k : ℕ) → IsHomePlace k → k < lbn → k < length J → IsHome (block_at J k) → (block_at J k ≡ block_at I k) ⊎ CouldBeWritten I L k → ⊥
      none k place below inside home (inl e) = h.least k place below (subst (λ n. k < n) long inside) (subst IsHome e home)
      none k place below inside home (inr w) = S.home_stays lbn k h place below w

  -- the home block of the changed image is that of the old one
  pub home_was_at : (lbn : ℕ) → IsHomeAt J lbn → IsHomeAt I lbn
  home_was_at lbn h =
      let old = S.layout.home.0 in
      let before : IsHomeAt I old = S.layout.home.1 in
      subst (λ n. IsHomeAt I n) (same_place J old lbn (home_stays_at old before) h) before

  pub layout_stays : HasBlocks J L 1 L.index → HasBlocks J L 2 L.bitmap → IsLayoutOf J L
  layout_stays index bitmap =
      let old = S.layout.home.0 in
      let before : IsHomeAt I old = S.layout.home.1 in
      record {
        home = (old, home_stays_at old before, S.layout.home.2 ∙ ap home_of (sym (home_here old before)));
        index = index;
        bitmap = bitmap;
      }
