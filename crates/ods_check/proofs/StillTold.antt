-- What was told of findings stays told.
use Rattle.std.proofs.Common.{◌≡◌, ℕ, List, Some, slice_get}
use Rattle.std.specs.List.{Contains}
use Rattle.ods_base.specs.declared.listed.Listed.{Listed}
use Rattle.ods_space.specs.Layout.{VolumeLayout}
use Rattle.ods_check.specs.declared.finding.Finding.{Finding}
use Rattle.ods_check.specs.declared.finding.Finding.TheVariants.{BadHeader, StrayNumbers, NamesNone}
use Rattle.ods_check.specs.Lists.{Adds}
use Rattle.ods_check.specs.Findings.{IsOtherFound, TellsHeader, TellsStrays, IsNamingNone, IsIdOfFile}
use Rattle.ods_check.proofs.Adding.{told_still}

pub told_header_still : (P : Finding → Type 0) (I : List (List ℕ)) (L : VolumeLayout) (n : ℕ) (old new : List Finding × ℕ) → Adds P old new → TellsHeader I L n old.0 → TellsHeader I L n new.0
told_header_still P I L n old new a t used bad low = let was = t used bad low in (was.0, told_still P old new (BadHeader n was.0) a was.1)

pub told_strays_still : (P : Finding → Type 0) (I : List (List ℕ)) (L : VolumeLayout) (old new : List Finding × ℕ) → Adds P old new → TellsStrays I L old.0 → TellsStrays I L new.0
told_strays_still P I L old new a t n low is = let was = t n low is in (was.0, was.1, was.2, told_still P old new (StrayNumbers was.0 was.1) a was.3)

-- each line of directory d that names no file is told
abbrev pub TellsNames : List (List ℕ) → VolumeLayout → ℕ → List Finding → Type 0
TellsNames I L d found = (line : Listed) → IsNamingNone I L d line → Contains found (NamesNone d line)

-- line i of these is told, where it names no file
abbrev pub TellsLine : List (List ℕ) → VolumeLayout → ℕ → List Listed → ℕ → List Finding → Type 0
TellsLine I L d lines i found = (line : Listed) → slice_get lines i ≡ Some line → ¬ IsIdOfFile I L line.file → Contains found (NamesNone d line)

module _ (I : List (List ℕ)) (L : VolumeLayout) (old new : List Finding × ℕ) (a : Adds (IsOtherFound I L) old new) where
  pub told_names_still : (d : ℕ) → TellsNames I L d old.0 → TellsNames I L d new.0
  told_names_still d t line h = told_still (IsOtherFound I L) old new (NamesNone d line) a (t line h)

  pub told_line_still : (d : ℕ) (lines : List Listed) (i : ℕ) → TellsLine I L d lines i old.0 → TellsLine I L d lines i new.0
  told_line_still d lines i t line at none = told_still (IsOtherFound I L) old new (NamesNone d line) a (t line at none)
