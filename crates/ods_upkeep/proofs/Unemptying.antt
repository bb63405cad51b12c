-- Why rmdir does not remove a directory, and what it leaves then.
use Rattle.std.proofs.Common.{◌≡◌, ◌<◌, refl, subst, inl, inr, ℕ, List, [], ◌∷◌, ◌++◌, Some, None}
use Rattle.std.specs.Prelude.{◌⊎◌}
use Rattle.std.specs.Borrow.{Bor}
use Rattle.ods_space.specs.Layout.{VolumeLayout}
use Rattle.ods_mount.specs.Faults.{IsDirectoryFile}
use Rattle.ods_paths.specs.Paths.{Folder}
use Rattle.ods_paths.specs.declared.versions.Versions.TheVariants.{Highest}
use Rattle.ods_filing.specs.Filed.{Filed}
use Rattle.ods_shell.specs.declared.facts.Facts.{Facts}
use Rattle.ods_shell.specs.declared.facts.Kind.TheVariants.{Directory}
use Rattle.ods_shell.specs.declared.found.Found.{Found}
use Rattle.ods_shell.specs.declared.path_fault.PathFault.{PathFault}
use Rattle.ods_shell.specs.declared.path_fault.PathFault.TheVariants as fault
use Rattle.ods_shell.specs.Named.{AreNamed, AreNotNamed}
use Rattle.ods_upkeep.specs.declared.failure.Failure.{Failure}
use Rattle.ods_upkeep.specs.declared.failure.Why.{Why}
use Rattle.ods_upkeep.specs.declared.failure.Why.TheVariants.{Path}
use Rattle.ods_upkeep.specs.Emptied.{AreEmptied}
use Rattle.ods_upkeep.specs.Made.{directories_named}
use Rattle.ods_upkeep.specs.Refused.{for_fault, no_memory}
use Rattle.ods_upkeep.specs.Unemptied.{AreNotEmptied, HasSome, IsNotEmpty, IsNotEmptied}

-- why nothing was found
pub no_find : (I : List (List ℕ)) (L : VolumeLayout) (up : Folder) (name : List ℕ) (why : PathFault) → AreNotNamed I L up (directories_named name Highest) None why
    → ((for_fault why ≡ Path fault.Nothing) × AreNamed I L [] up (directories_named name Highest) None []) ⊎ (for_fault why ≡ no_memory)
no_find I L up name fault.NoMemory none = inr refl
no_find I L up name fault.NoVersion none = absurd (cc)
no_find I L up name fault.Nothing none = inl (refl, none)
no_find I L up name (fault.Bad bad) none = absurd none
no_find I L up name fault.NoName none = absurd none
no_find I L up name fault.IsId none = absurd none
no_find I L up name fault.NoSuchFile none = absurd none

-- a directory that is none of the volume's own files, and has some
pub has_some : (I : List (List ℕ)) (L : VolumeLayout) (found : Found) (facts : Facts) (why : Why) → found.facts ≡ Some facts → facts.kind ≡ Directory → IsDirectoryFile I L facts.file.number
    → 5 < facts.file.number → HasSome I L facts.file.number why → IsNotEmpty I L found why
has_some I L found facts why known is directory above some = inr (facts, known, inr (is, directory, inr (above, some)))

-- the directories of the first paths have gone, and not all of the next one do
pub stops_at : (paths : List (Bor (List ℕ))) (path : Bor (List ℕ)) (rest : List (Bor (List ℕ))) (old mid new : Filed) (failure : Failure) → AreEmptied paths old mid → IsNotEmptied path.now mid new failure
    → AreNotEmptied (paths ++ path ∷ rest) old new failure
stops_at [] path rest old mid new failure same none = inl (subst (λ f. IsNotEmptied path.now f new failure) same none)
stops_at (p ∷ paths) path rest old mid new failure gone none = inr (gone.0, gone.1, stops_at paths path rest gone.0 mid new failure gone.2 none)
