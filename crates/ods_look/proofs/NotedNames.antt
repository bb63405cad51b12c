-- What is noted of a directory is its blocks in order, with the tags of their entries.
use Rattle.std.proofs.Common.{◌≡◌, ◌≢◌, ℕ, ◌<◌, refl, ap, sym, ◌∙◌, subst, Bool, true, false, List, length, get_or}
use Rattle.std.specs.Prelude.{nat_eq, slice_index}
use Rattle.std.proofs.lemmas.Grind.{get_or_default_zero}
use lib.Pointwise.{pointwise, bytes_decides}
use Rattle.ods_base.specs.Image.{IsImage}
use Rattle.ods_header.specs.Header.{is_directory_header}
use Rattle.ods_space.specs.Layout.{VolumeLayout}
use Rattle.ods_space.specs.Files.{HasBlocks, IsFile}
use Rattle.ods_directory.specs.Tags.{AreTags}
use Rattle.ods_mount.specs.Faults.{contents_of}
use Rattle.ods_mount.specs.Sound.{IsSoundBy}
use Rattle.ods_state.specs.Noted.{AreOfFile}
use Rattle.ods_look.specs.Blocks.{blocks_in_order}
use Rattle.ods_look.proofs.BlockPlaces.{blocks_are_one, in_order}

-- lists of numbers that cannot differ are the same
pub stable_list : (xs ys : List ℕ) → ¬ (¬ (xs ≡ ys)) → xs ≡ ys
stable_list xs ys cannot = by (pointwise nat_eq xs ys) refl
  where
    by : (b : Bool) → pointwise nat_eq xs ys ≡ b → xs ≡ ys
    by true same = (bytes_decides xs ys).0 same
    by false off = absurd (cannot (λ e. let clash : true ≡ false = sym ((bytes_decides xs ys).1 e) ∙ off in absurd (cc)))

module _ {I : List (List ℕ)} {L : VolumeLayout} {n : ℕ} (image : IsImage I) (S : IsSoundBy I L) (file : IsFile I L n) {m : ℕ} (same : m ≡ n) {blocks : List ℕ} {tags : List (List ℕ)}
    (known : AreOfFile I L m blocks tags) where
  pub noted_blocks : blocks ≡ blocks_in_order I L n
  noted_blocks = stable_list blocks (blocks_in_order I L n) (λ no. known.held (λ held. no (blocks_are_one (subst (λ k. HasBlocks I L k blocks) same held) (in_order image S file))))

  pub noted_tags : AreTags (contents_of I (blocks_in_order I L n)) tags
  noted_tags = subst (λ bs. AreTags (contents_of I bs) tags) noted_blocks known.tagged

-- the element at a place, by whatever default
pub placed : (order items : List ℕ) (i x : ℕ) → items ≡ order → x ≡ get_or items i x → i < length order → x ≡ slice_index order i
placed order items i x same is within = is ∙ ap (λ l. get_or l i x) same ∙ get_or_default_zero order i x within

-- a directory is neither INDEXF.SYS nor BITMAP.SYS
pub directory_is_high : (n : ℕ) (b : List ℕ) → is_directory_header n b ≡ true → (n ≢ 1) × (n ≢ 2)
directory_is_high n b kind = (λ e. let wrong : false ≡ true = sym (ap (λ k. is_directory_header k b) e) ∙ kind in absurd (cc), λ e. let wrong : false ≡ true = sym (ap (λ k. is_directory_header k b) e) ∙ kind in absurd (cc))
