-- The tags of blocks of which a draft changes some.
use Rattle.std.proofs.Common.{◌≡◌, ◌≢◌, ℕ, ◌<◌, ◌≤◌, ap, sym, ◌∙◌, subst, List, [], length, map, get_or, None, arith, inl, inr}
use Rattle.std.specs.Prelude.{◌⊎◌, slice_index, slice_index_or, unwrap_or}
use Rattle.std.proofs.lemmas.Bool.{cases_order}
use Rattle.std.proofs.lemmas.List.{ext_get_or, get_or-map, length-map}
use Rattle.ods_base.specs.Image.{block_at}
use Rattle.ods_space.specs.Draft.{Changes, applied, change_at, seen_at}
use Rattle.ods_space.specs.Files.{AreInside}
use Rattle.ods_space.proofs.Drafts.{block_at-applied}
use Rattle.ods_directory.specs.Tags.{block_tags}
use Rattle.ods_mount.specs.Faults.{contents_of}
use Rattle.ods_look.specs.Blocks.{AreTaggedBlocks}

-- a block that does not change is seen as it is
seen_same : (I : List (List ℕ)) (d : Changes) (x : ℕ) → change_at d x ≡ None → seen_at I d x ≡ block_at I x
seen_same I d x none = ap (λ o. unwrap_or o (block_at I x)) none

-- the tags at this place are those of the block, as the draft has it, and as it was
abbrev pub IsTagged : List (List ℕ) → Changes → List ℕ → List (List ℕ) → ℕ → Type 0
IsTagged I d blocks tags k = slice_index_or tags k [] ≡ block_tags (seen_at I d (slice_index blocks k))

abbrev pub IsTaggedBefore : List (List ℕ) → List ℕ → List (List ℕ) → ℕ → Type 0
IsTaggedBefore I blocks tags k = slice_index_or tags k [] ≡ block_tags (block_at I (slice_index blocks k))

-- the blocks before a place on the disk have their tags, and those behind it the old ones
pub record AreSetBefore (I : List (List ℕ)) (d : Changes) (blocks : List ℕ) (tags : List (List ℕ)) (at : ℕ) : Type 0 where
  pub long : length tags ≡ length blocks
  pub done : (k : ℕ) → k < length blocks → slice_index blocks k < at → IsTagged I d blocks tags k
  pub left : (k : ℕ) → k < length blocks → at ≤ slice_index blocks k → IsTaggedBefore I blocks tags k

module _ (I : List (List ℕ)) (d : Changes) (blocks : List ℕ) (inside : AreInside I blocks) where
  tag_at : (J : List (List ℕ)) (k : ℕ) → k < length blocks → get_or (map block_tags (contents_of J blocks)) k [] ≡ block_tags (block_at J (slice_index blocks k))
  tag_at J k below =
      get_or-map block_tags (contents_of J blocks) k [] [] (subst (λ n. k < n) (sym (length-map blocks (block_at J))) below)
      ∙ ap block_tags (get_or-map (block_at J) blocks k 0 [] below)

  pub tagged_before : (tags : List (List ℕ)) → AreTaggedBlocks I blocks tags → (k : ℕ) → k < length blocks → IsTaggedBefore I blocks tags k
  tagged_before tags are k below = ap (λ ts. slice_index_or ts k []) are ∙ tag_at I k below

  pub tags_long : (tags : List (List ℕ)) → AreTaggedBlocks I blocks tags → length tags ≡ length blocks
  tags_long tags are = ap length are ∙ length-map (contents_of I blocks) block_tags ∙ length-map blocks (block_at I)

  pub all_tagged : (tags : List (List ℕ)) → length tags ≡ length blocks → ((k : ℕ) → k < length blocks → IsTagged I d blocks tags k) → AreTaggedBlocks (applied I d) blocks tags
  all_tagged tags long each =
      ext_get_or [] tags (map block_tags (contents_of (applied I d) blocks)) (long ∙ sym (length-map (contents_of (applied I d) blocks) block_tags ∙ length-map blocks (block_at (applied I d))))
      (λ k low.
      let below : k < length blocks = omega (arith, long, low) in
      each k below ∙ ap block_tags (sym (block_at-applied I d (slice_index blocks k) (inside k 0 below))) ∙ sym (tag_at (applied I d) k below))

  -- a block that does not change has its tags
  still_tagged : (tags : List (List ℕ)) (k : ℕ) → change_at d (slice_index blocks k) ≡ None → IsTaggedBefore I blocks tags k → IsTagged I d blocks tags k
  still_tagged tags k none before = before ∙ ap block_tags (sym (seen_same I d (slice_index blocks k) none))

  -- up to the first change
  pub set_first : (tags : List (List ℕ)) (at : ℕ) → ((x : ℕ) → x < at → change_at d x ≡ None) → AreTaggedBlocks I blocks tags → AreSetBefore I d blocks tags at
  set_first tags at none are = record {
    long = tags_long tags are;
    done = λ k below before. still_tagged tags k (none (slice_index blocks k) before) (tagged_before tags are k below);
    left = λ k below behind. tagged_before tags are k below;
  }

  -- and from one change to the next
  pub set_next : (tags now : List (List ℕ)) (at next : ℕ) (new block : List ℕ) → AreSetBefore I d blocks tags at → at < next → ((x : ℕ) → at < x → x < next → change_at d x ≡ None)
      → new ≡ block_tags block → block ≡ seen_at I d at → length now ≡ length blocks
      → ((k : ℕ) → k < length blocks → slice_index blocks k ≡ at → slice_index_or now k [] ≡ new)
      → ((k : ℕ) → k < length blocks → slice_index blocks k ≢ at → slice_index_or now k [] ≡ slice_index_or tags k []) → AreSetBefore I d blocks now next
  set_next tags now at next new block before on none are value long own others = record {
    long = long;
    done = λ k below low. by k below low (cases_order (slice_index blocks k) at);
    left = λ k below behind. others k below (λ e. absurd (omega (arith, e, behind, on))) ∙ before.left k below (omega (arith, behind, on));
  }
    where
      by : (k : ℕ) → k < length blocks → slice_index blocks k < next → (slice_index blocks k ≡ at) ⊎ ((slice_index blocks k < at) ⊎ (at < slice_index blocks k)) → IsTagged I d blocks now k
      by k below low (inl e) = own k below e ∙ are ∙ ap block_tags (value ∙ ap (seen_at I d) (sym e))
      by k below low (inr (inl low_than)) = others k below (λ e. absurd (omega (arith, e, low_than))) ∙ before.done k below low_than
      by k below low (inr (inr high)) =
          others k below (λ e. absurd (omega (arith, e, high))) ∙ before.left k below (omega (arith, high)) ∙ ap block_tags (sym (seen_same I d (slice_index blocks k) (none (slice_index blocks k) high low)))

  -- up to the end of the disk
  pub set_all : (tags : List (List ℕ)) (at : ℕ) → length I ≤ at → AreSetBefore I d blocks tags at → AreTaggedBlocks (applied I d) blocks tags
  set_all tags at end set = all_tagged tags set.long (λ k below. let low = inside k 0 below in set.done k below (omega (arith, low, end)))
