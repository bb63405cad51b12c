-- What `cat` writes, as it grows.
use Rattle.std.proofs.Common.{◌≡◌, ◌∙◌, ℕ, refl, sym, ap, subst, List, [], ◌∷◌, ◌++◌, Option, Some, None}
use Rattle.std.specs.Prelude.{IfSome, IsSome}
use Rattle.std.specs.Borrow.{Bor}
use Rattle.std.specs.Io.KnownBytes.{Appends}
use Rattle.std.specs.List.{All}
use Rattle.std.proofs.lemmas.List.{append-nil}
use Rattle.ods_base.specs.declared.file_id.Uic.{Uic}
use Rattle.ods_records.specs.declared.kind.Wanted.{Wanted}
use Rattle.ods_shell.specs.Contents.{IsGot}
use Rattle.ods_shell.specs.declared.facts.Facts.{Facts}
use Rattle.ods_shell.specs.declared.form.Remark.{Remark}
use Rattle.ods_shell.specs.declared.found.Found.{Found}
use Rattle.ods_shell.specs.declared.status.Status.{Status}
use Rattle.ods_shell.specs.declared.status.Status.TheVariants as status
use Rattle.ods_space.specs.Layout.{VolumeLayout}
use Rattle.fs_reads.proofs.FilesGot.{both_done, named_alone}
use Rattle.fs_reads.proofs.Parting.{have_each}
use Rattle.fs_reads.specs.Cats.{AreFilesOutput, ArePathsOutput, HoldsFiles, IsFileOutput, IsPathOutput}
use Rattle.fs_reads.specs.Denied.{MayRead}
use Rattle.fs_reads.specs.Gets.{IsGettable, IsPathGot}
use Rattle.fs_reads.specs.Named.{AddsNamed}

module _ (I : List (List ℕ)) (L : VolumeLayout) (wanted : Wanted) (user : Option Uic) where
  -- what is opened of a file, and written, is its output
  pub one_output : (found : Found) (Are : List ℕ → Type 0) (said : Option Remark) (known : Option Facts) (old new : Option (List ℕ)) → found.facts ≡ known → IsSome known
      → IfSome known (λ facts. MayRead user facts × ((bytes : List ℕ) × Are bytes × IsGot I L facts.file.number wanted bytes said))
      → ((bytes : List ℕ) → Are bytes → Appends old new bytes) → HoldsFiles old new status.Done (IsFileOutput I L wanted user found)
  one_output found Are said None old new e some opened took = absurd (cc some)
  one_output found Are said (Some facts) old new e some opened took =
      let bytes = opened.1.0 in
      (bytes ∷ [], subst (Appends old new) (sym (append-nil bytes)) (took bytes opened.1.1), λ done. (facts, bytes, said, e, opened.0, opened.1.2, refl))

  module _ (closed : List ℕ) where
    -- the files that a path names
    pub path_output : (path : List ℕ) (old new : Option (List ℕ)) (none all : List Found) (named written s : Status) → none ≡ [] → AddsNamed I L user closed path none all named
        → HoldsFiles old new written (AreFilesOutput I L wanted user all) → (named ≡ status.Done → s ≡ written) → (¬ (named ≡ status.Done) → s ≡ named)
        → HoldsFiles old new s (IsPathOutput I L wanted user closed path)
    path_output path old new none all named written s empty adds held d f = (
      held.0,
      held.1,
      λ e.
          let both = both_done named written s d f e in
          let one = named_alone I L user closed path none all named adds both.0 in
          let same : all ≡ one.0 = one.1 ∙ ap (λ l. l ++ one.0) empty in
          (one.0, one.2, subst (λ l. AreFilesOutput I L wanted user l held.0) same (held.2 both.1)),
    )

    -- what is output is got
    got_file : (found : Found) (output : List (List ℕ)) → IsFileOutput I L wanted user found output → IsGettable user (λ n. IsGot I L n wanted) found
    got_file found output one = (one.0, one.3, one.4, (one.1, one.2, one.5))

    got_path : (path : Bor (List ℕ)) (output : List (List ℕ)) → IsPathOutput I L wanted user closed path.now output → IsPathGot I L user (λ n. IsGot I L n wanted) closed path.now
    got_path path output one = (one.0, one.1, have_each (IsFileOutput I L wanted user) (IsGettable user (λ n. IsGot I L n wanted)) one.0 output got_file one.2)

    pub paths_output : (paths : List (Bor (List ℕ))) (output : List (List ℕ)) → ArePathsOutput I L wanted user closed paths output → All (λ path. IsPathGot I L user (λ n. IsGot I L n wanted) closed path.now) paths
    paths_output paths output have =
        have_each (λ path. IsPathOutput I L wanted user closed path.now) (λ path. IsPathGot I L user (λ n. IsGot I L n wanted) closed path.now) paths output got_path have
