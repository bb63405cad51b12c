-- A file of the same name in another directory.
use Rattle.std.proofs.Common.{◌≡◌, ℕ, List, Option, Some, None, ap, subst, string_bytes}
use Rattle.std.specs.Prelude.{IfSome, slice_get}
use Rattle.ods_paths.specs.Paths.{Files, Folder, Says, Within}
use Rattle.ods_paths.specs.declared.versions.Versions.TheVariants.{Highest}
use Rattle.ods_shell.specs.Named.{AreNamed}
use Rattle.ods_shell.specs.Ways.{CountAsClosed}
use Rattle.ods_shell.specs.declared.folders.Directory.{Directory}
use Rattle.ods_shell.specs.declared.found.Found.{Found}
use Rattle.ods_space.specs.Layout.{VolumeLayout}
use Rattle.fs_reads.specs.Named.{everywhere}
use Rattle.fs_reads.specs.Near.{IsNear}

-- the path of the first file that is found everywhere
pub first_near : {S : Type 0} (text : S → List ℕ) (I : List (List ℕ)) (L : VolumeLayout) (closed path : List ℕ) (folder : Folder) (files : Files) (found : List Found) (met : List Directory)
    → Says path (Within folder (Some files)) → ((shut : List ℕ) → CountAsClosed closed met shut → AreNamed I L shut everywhere files (Some Highest) found)
    → (r : Option S) → IfSome r (λ s. (first : Found) × (slice_get found 0 ≡ Some first) × (text s ≡ string_bytes first.path)) → IfSome r (λ s. IsNear I L closed path (text s))
first_near text I L closed path folder files found met says named None first = tt
first_near text I L closed path folder files found met says named (Some s) first =
    record { folder = folder; files = files; says = says; found = found; met = met; named = named; first = first.0; is_first = first.1; shown = first.2 }
