-- Lines that are found directory by directory.
use Rattle.std.proofs.Common.{◌≡◌, ℕ, ◌+◌, refl, sym, ap, ◌∙◌, List, [], ◌∷◌, ◌++◌, length, map, append_assoc, append-nil, Option, arith}
use Rattle.ods_base.specs.declared.listed.Listed.{Listed}
use Rattle.ods_space.specs.Layout.{VolumeLayout}
use Rattle.ods_paths.specs.declared.versions.Versions.{Versions}
use Rattle.ods_paths.specs.Paths.{Files}
use Rattle.ods_shell.specs.declared.folders.Directory.{Directory}
use Rattle.ods_walk.specs.declared.tables.Line.{Line}
use Rattle.ods_shell.specs.Found.{AreFound, AreFoundIn, placed}

module _ (I : List (List ℕ)) (L : VolumeLayout) (files : Option Files) (unsaid : Versions) where
  -- and one directory more
  pub found_more : (place k : ℕ) (before : List Directory) (d : Directory) (lines : List Line) (entries : List Listed) → k ≡ place + length before → AreFound I L files unsaid place before lines → AreFoundIn I L files unsaid d.number entries
      → AreFound I L files unsaid place (before ++ d ∷ []) (lines ++ map (placed k) entries)
  found_more place k [] d lines entries at are found = (
    entries,
    [],
    (let here : k ≡ place = at ∙ omega arith in ap (λ l. l ++ map (placed k) entries) are ∙ ap (λ n. map (placed n) entries) here ∙ sym (append-nil (map (placed place) entries))),
    found,
    refl,
  )
  found_more place k (b ∷ before) d lines entries at are found =
      let next : k ≡ place + 1 + length before = at ∙ omega arith in (
        are.0,
        are.1 ++ map (placed k) entries,
        ap (λ l. l ++ map (placed k) entries) are.2 ∙ append_assoc (map (placed place) are.0) are.1 (map (placed k) entries),
        are.3,
        found_more (place + 1) k before d are.1 entries next are.4 found,
      )
