-- What is said of a directory that is read in part.
use Rattle.std.proofs.Common.{◌≡◌, sym, ◌∙◌, ap, ℕ, Bool, true, false, List}
use Rattle.std.specs.Prelude.{if◌then◌else◌, IfOk, Result, Ok, Err}
use Rattle.ods_base.specs.declared.listed.Listed.{Listed}
use Rattle.ods_space.specs.Layout.{VolumeLayout}
use Rattle.ods_shell.specs.Named.{id_of}
use Rattle.ods_walk.specs.Listing.{IsListing}
use Rattle.fs_reads.specs.Told.{SaysPassed, bad_entries_text, is_no_directory, no_directory_text}

module _ (I : List (List ℕ)) (L : VolumeLayout) (n bad s : ℕ) (lines : List Listed) (listing : IsListing I L n lines) (here : s ≡ (id_of I L n).sequence) where
  abbrev chosen : Bool → List ℕ
  chosen b = if b then no_directory_text n (id_of I L n).sequence bad else bad_entries_text n (id_of I L n).sequence bad

  -- no line is shown
  pub says_none : {X E : Type 0} (view : X → List ℕ) (r : Result X E) → is_no_directory n lines ≡ true → IfOk r (λ t. view t ≡ no_directory_text n s bad) → IfOk r (λ t. SaysPassed I L n bad (view t))
  says_none view (Ok t) is said = (lines, listing, said ∙ ap (λ x. no_directory_text n x bad) here ∙ sym (ap chosen is))
  says_none view (Err e) is said = tt

  -- some are
  pub says_bad : {X E : Type 0} (view : X → List ℕ) (r : Result X E) → is_no_directory n lines ≡ false → IfOk r (λ t. view t ≡ bad_entries_text n s bad) → IfOk r (λ t. SaysPassed I L n bad (view t))
  says_bad view (Ok t) is said = (lines, listing, said ∙ ap (λ x. bad_entries_text n x bad) here ∙ sym (ap chosen is))
  says_bad view (Err e) is said = tt
