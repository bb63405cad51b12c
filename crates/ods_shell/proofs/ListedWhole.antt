-- The matched entries of a directory, put in order, are what patterns match of a whole listing.
use Rattle.std.proofs.Common.{◌≡◌, refl, ℕ, List, [], Result, Ok, Err}
use Rattle.std.specs.Prelude.{IfOk, IsPermutation, IsSortedByKey}
use Rattle.std.specs.Ordering.{is_lt}
use Rattle.std.specs.declared.vec.Vec.{Vec}
use Rattle.std.proofs.lemmas.List.Sorted.{ranks_by}
use Rattle.ods_base.specs.declared.listed.Listed.{Listed}
use Rattle.ods_space.specs.Layout.{VolumeLayout}
use Rattle.ods_mount.specs.Faults.{IsDirectoryFile}
use Rattle.ods_paths.specs.Order.{listing_cmp}
use Rattle.ods_paths.specs.Paths.{Files}
use Rattle.ods_paths.proofs.ListingOrder.{listing_total}
use Rattle.ods_walk.specs.Listing.{AreEntries, IsListing, shown}
use Rattle.ods_shell.specs.Choosing.{AreThose}
use Rattle.ods_shell.specs.Found.{AreLinesOf}
use Rattle.ods_shell.specs.Matched.{AreMatchedIn, IsMatchedLine}
use Rattle.ods_shell.proofs.PutBack.{sorted_of_all}

module _ (I : List (List ℕ)) (L : VolumeLayout) (files : Files) (n : ℕ) where
  -- no directory has lines
  pub none_matched : (those : List Listed) → ¬ IsDirectoryFile I L n → those ≡ [] → AreMatchedIn I L files n those
  none_matched those none is = ([], (λ there. absurd (none there), λ not. refl), is)

  pub matched_of_listing : (entries some : List Listed) → IsDirectoryFile I L n → AreEntries I L n entries → AreThose (IsMatchedLine files) entries some → (those : List Listed) → IsPermutation some those
      → IsSortedByKey shown listing_cmp those → AreMatchedIn I L files n those
  matched_of_listing entries some there are matched those moved sorted =
      let all = sorted_of_all (λ x y. is_lt (listing_cmp (shown x) (shown y))) (ranks_by listing_total shown) (IsMatchedLine files) entries some those matched moved sorted in
      (all.0, (λ _. record { entries = entries; are = are; all = all.1; order = all.2 }, λ not. absurd (not there)), all.3)

-- of what was made two things hold, so a third does
pub from_two : {T E : Type 0} (r : Result T E) (P Q S : T → Type 0) → ((x : T) → P x → Q x → S x) → IfOk r P → IfOk r Q → IfOk r S
from_two (Ok x) P Q S gives p q = gives x p q
from_two (Err e) P Q S gives p q = tt

-- the lines of a directory, from what is said of them apart
pub lines_are : {A E : Type 0} (I : List (List ℕ)) (L : VolumeLayout) (n : ℕ) (r : Result (Vec Listed A) E) → IfOk r (λ lines. IsDirectoryFile I L n → IsListing I L n lines.items) → IfOk r (λ lines. ¬ IsDirectoryFile I L n → lines.items ≡ [])
    → IfOk r (λ lines. AreLinesOf I L n lines.items)
lines_are I L n (Ok lines) there none = (there, none)
lines_are I L n (Err e) there none = tt
