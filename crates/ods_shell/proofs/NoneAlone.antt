-- Folders alone: why they stand for nothing.
use Rattle.std.proofs.Common.{◌≡◌, inl, inr, refl, sym, subst, false, List, [], Option, Some, None, ℕ, Result, Ok, Err}
use Rattle.std.specs.Prelude.{IfOk}
use Rattle.ods_space.specs.Layout.{VolumeLayout}
use Rattle.ods_paths.specs.declared.versions.Versions.{Versions}
use Rattle.ods_paths.specs.Paths.{Folder}
use Rattle.ods_shell.specs.declared.alone.Alone.TheVariants as alone
use Rattle.ods_shell.specs.declared.path_fault.PathFault.{PathFault}
use Rattle.ods_shell.specs.declared.path_fault.PathFault.TheVariants as fault
use Rattle.ods_shell.specs.Named.{AreNotNamed, IsNoneAlone, every_file, master_file}

-- no files are in them
pub none_inside : (I : List (List ℕ)) (L : VolumeLayout) (folder : Folder) (versions : Option Versions) (why : PathFault) → AreNotNamed I L folder every_file versions why → IsNoneAlone I L folder versions alone.Files why
none_inside I L folder versions fault.NoMemory none = none
none_inside I L folder versions fault.NoVersion none = (refl, none)
none_inside I L folder versions fault.Nothing none = ([], none, refl)
none_inside I L folder versions (fault.Bad bad) none = none
none_inside I L folder versions fault.NoName none = absurd none
none_inside I L folder versions fault.IsId none = none
none_inside I L folder versions fault.NoSuchFile none = none

-- the master directory has no name
pub none_master : (I : List (List ℕ)) (L : VolumeLayout) (folder : Folder) (versions : Option Versions) (why : PathFault) → folder.below ≡ false → folder.steps ≡ [] → AreNotNamed I L folder master_file None why
    → IsNoneAlone I L folder versions alone.Themselves why
none_master I L folder versions fault.NoMemory below steps none = none
none_master I L folder versions fault.NoVersion below steps none = absurd (cc none)
none_master I L folder versions fault.Nothing below steps none = (below, inl (steps, none))
none_master I L folder versions (fault.Bad bad) below steps none = none
none_master I L folder versions fault.NoName below steps none = absurd none
none_master I L folder versions fault.IsId below steps none = none
none_master I L folder versions fault.NoSuchFile below steps none = none

-- what is given back is what was given
pub given_back : {A B E : Type 0} (R : A → B → Type 0) (all : A) (met : B) (result : Result (A × B) E) → R all met → IfOk result (λ r. (r.0 ≡ all) × (r.1 ≡ met)) → IfOk result (λ r. R r.0 r.1)
given_back R all met (Ok (a, b)) holds told = subst (λ x. R x b) (sym told.0) (subst (λ y. R all y) (sym told.1) holds)
given_back R all met (Err e) holds told = tt
