-- What `repair` leaves of an image: the requested kinds, in order.
use Rattle.std.specs.Prelude.{◌≡◌, ◌≢◌, ◌⊎◌, ◌||◌, ℕ, Bool, true, false, List, [], ◌∷◌, Option, Some, None}
use Rattle.std.specs.Borrow.{Bor}
use Rattle.std.specs.List.{All, Contains}
use Rattle.ods_base.specs.declared.file_id.FileId.{FileId}
use Rattle.ods_base.specs.declared.file_id.Uic.{Uic}
use Rattle.ods_space.specs.Files.{IsLayoutOf}
use Rattle.ods_space.specs.Layout.{VolumeLayout}
use Rattle.ods_mount.specs.Faults.{FaultIsTrue, IsTrueOf}
use Rattle.ods_mount.specs.Sound.{IsSoundBy}
use Rattle.ods_mount.specs.declared.fault.MountFault.{MountFault}
use Rattle.ods_mount.specs.declared.fault.MountFault.TheVariants.{DoublyUsed, DuplicateName}
use Rattle.ods_mount.specs.declared.fault.MountFault.TheVariants as faulty
use Rattle.ods_check.specs.Findings.{IsLostFile}
use Rattle.ods_check.specs.declared.dangling_list.Dangling.{Dangling}
use Rattle.ods_check.specs.declared.fault_line.FaultLine.{FaultLine}
use Rattle.ods_check.specs.declared.fault_line.FaultLine.TheVariants.{Shared}
use Rattle.ods_check.specs.declared.finding.Finding.{Finding}
use Rattle.ods_filing.specs.Filed.{Filed}
use Rattle.ods_paths.specs.Paths.{Said, Says}
use Rattle.ods_request.specs.declared.refusals.Refusal.TheVariants as refusal
use Rattle.ods_repair.specs.Asked.{IsBare, IsCovered}
use Rattle.ods_repair.specs.Cleared.{IsCleared}
use Rattle.ods_repair.specs.Doubled.{HasRenumbered, IsNotRenumbered}
use Rattle.ods_repair.specs.Found.{IsFound, IsNotFound}
use Rattle.ods_repair.specs.Freed.{IsFreed, IsNotFreed}
use Rattle.ods_repair.specs.Unshared.{HasOwnRuns, IsNotUnshared}
use Rattle.ods_repair.specs.Used.{AreUsed, IsBitmapFault}
use Rattle.ods_repair.specs.Wholly.{IsAllRenumbered, IsAllUnshared, IsAllUsed}
use Rattle.ods_repair.specs.declared.fault.RepairFault.{RepairFault}
use Rattle.ods_repair.specs.declared.fault.RepairFault.TheVariants as repair
use Rattle.ods_repair.specs.declared.lost_file.LostFile.{LostFile}
use Rattle.ods_repair.specs.declared.unsharing.Unshared.{Unshared}
use Rattle.ods_shell.specs.Named.{AreNamedBy, highest}
use Rattle.ods_shell.specs.declared.alone.Alone.TheVariants as alone
use Rattle.ods_shell.specs.declared.facts.Facts.{Facts}
use Rattle.ods_shell.specs.declared.facts.Kind.TheVariants as kind
use Rattle.ods_shell.specs.declared.found.Found.{Found as Named}
use Rattle.ods_upkeep.specs.Made.{AreMade}
use Rattle.ods_upkeep.specs.Unmade.{AreNotMade}
use Rattle.ods_upkeep.specs.Refused.{no_memory}
use Rattle.ods_upkeep.specs.declared.failure.Failure.{Failure}
use Rattle.fs_reads.specs.declared.stop.Stop.{Stop}
use Rattle.fs_reads.specs.declared.stop.Stop.TheVariants as stop
use Rattle.fs_reads.specs.declared.volume.VolumeFault.TheVariants as image_fault
use Rattle.fs_words.specs.declared.actions.Repairs.{Repairs}

-- the user of repairs: the keeper of the image, [1,1]
abbrev pub keeper : Uic
keeper = record { group = 1; member = 1 }

-- the fault of a repair is reported. If memory runs out, the command ends instead.
abbrev pub IsReported : RepairFault → Type 0
IsReported repair.NoMemory = ⊥
IsReported (repair.NotRemoved x refusal.NoMemory) = ⊥
IsReported (repair.NotEntered x refusal.NoMemory) = ⊥
IsReported why = Unit {0}

-- a repair is left for a reported fault of this kind
abbrev pub IsLeftFor : (RepairFault → Type 0) → Type 0
IsLeftFor Is = (why : RepairFault) × IsReported why × Is why

-- what `used` leaves: blocks that belong to files and were marked as free are used; or it is refused, and nothing is done
abbrev pub LeavesUsed : Bool → List (List ℕ) → List (List ℕ) → Type 0
LeavesUsed false I J = J ≡ I
LeavesUsed true I J = (L : VolumeLayout) × IsLayoutOf I L
    × (((blocks : List ℕ) × AreUsed I L blocks J) ⊎ ((J ≡ I) × IsLeftFor (IsBitmapFault I L)))

-- no two names of directory d are the same any more; or that is refused, and nothing is done
abbrev pub LeavesDirectory : VolumeLayout → ℕ → List (List ℕ) → List (List ℕ) → Type 0
LeavesDirectory L d I J = HasRenumbered I L d J ⊎ ((J ≡ I) × IsLeftFor (IsNotRenumbered I L d))

-- the same for each of these, in order
abbrev pub LeavesDirectories : VolumeLayout → List ℕ → List (List ℕ) → List (List ℕ) → Type 0
LeavesDirectories L [] I J = J ≡ I
LeavesDirectories L (d ∷ ds) I J = (mid : List (List ℕ)) × LeavesDirectory L d I mid × LeavesDirectories L ds mid J

-- the line describes a pair of files that share blocks, of which this is the later one
abbrev pub TellsLater : FaultLine → ℕ → Type 0
TellsLater line n = (m : ℕ) × (b : ℕ) × (count : ℕ) × (line ≡ Shared m n b count)

-- one of the lines does
abbrev pub IsToldAsShared : List FaultLine → ℕ → Type 0
IsToldAsShared lines n = (m : ℕ) × (b : ℕ) × (count : ℕ) × Contains lines (Shared m n b count)

-- runs of file n have blocks of their own; or that is refused, and nothing is done
abbrev pub LeavesFile : VolumeLayout → ℕ → List (List ℕ) → List (List ℕ) → Type 0
LeavesFile L n I J = ((told : Unshared) × HasOwnRuns I L n told J) ⊎ ((J ≡ I) × IsLeftFor (IsNotUnshared I L n))

-- the same for each of these, in order
abbrev pub LeavesFiles : VolumeLayout → List ℕ → List (List ℕ) → List (List ℕ) → Type 0
LeavesFiles L [] I J = J ≡ I
LeavesFiles L (n ∷ ns) I J = (mid : List (List ℕ)) × LeavesFile L n I mid × LeavesFiles L ns mid J

-- what `share` leaves: runs of files that share blocks with earlier files, or repeat blocks, have blocks of their own
abbrev pub LeavesShared : Bool → List (List ℕ) → List (List ℕ) → Type 0
LeavesShared false I J = J ≡ I
LeavesShared true I J = (L : VolumeLayout) × (ns : List ℕ) × IsLayoutOf I L × All (λ n. (m : ℕ) × (b : ℕ) × IsTrueOf I L (DoublyUsed m n b)) ns × LeavesFiles L ns I J

-- what `double` leaves: in directories with two equal names, the second gets the next version
abbrev pub LeavesDouble : Bool → List (List ℕ) → List (List ℕ) → Type 0
LeavesDouble false I J = J ≡ I
LeavesDouble true I J = (L : VolumeLayout) × (ds : List ℕ) × IsLayoutOf I L × All (λ d. IsTrueOf I L (DuplicateName d)) ds × LeavesDirectories L ds I J

-- what `names` leaves: entries that named no file are removed
abbrev pub LeavesNames : Bool → Filed → Filed → Type 0
LeavesNames false old new = new ≡ old
LeavesNames true old new = (found : List Dangling) × IsCleared old found new

-- the found entry is this directory
abbrev pub IsDirectoryFound : Named → FileId → Type 0
IsDirectoryFound found dir = (facts : Facts) × (found.facts ≡ Some facts) × (facts.kind ≡ kind.Directory) × (facts.file ≡ dir)

-- one entry is found, and it is this directory
abbrev pub IsOneDirectory : List Named → FileId → Type 0
IsOneDirectory all dir = (found : Named) × (all ≡ found ∷ []) × IsDirectoryFound found dir

-- the path selects this one directory
abbrev pub IsDirectoryOf : Filed → List ℕ → FileId → Type 0
IsDirectoryOf volume path dir = (says : Said) × Says path says × ((all : List Named) × AreNamedBy volume.image volume.layout [] says (highest alone.Themselves) all × IsOneDirectory all dir)

-- The directory is created like with mkdir, while the master directory denies nothing. Then that has its protection again.
pub record IsCreated (stamp : List ℕ) (path : Bor (List ℕ)) (old new : Filed) : Type 0 where
  pub master : FileId
  pub is : master.number ≡ 4
  pub bare : Filed
  pub done : Filed
  pub bared : IsBare old master bare
  pub made : AreMade None 0 stamp (path ∷ []) bare done
  pub covered : IsCovered old master done new

-- the directory exists, or is created
abbrev pub HasDirectory : List ℕ → Bor (List ℕ) → Filed → Filed → FileId → Type 0
HasDirectory stamp path old new dir = ((new ≡ old) ⊎ IsCreated stamp path old new) × IsDirectoryOf new path.now dir

-- something to repair is left, also if files stay lost
abbrev pub is_left_by : Bool → List FileId → Bool
is_left_by before [] = before
is_left_by before (id ∷ ids) = true

-- no file of the volume is lost
abbrev pub HasNoLost : Filed → Type 0
HasNoLost volume = (n : ℕ) → ¬ IsLostFile volume.image volume.layout n

-- files that no directory named are entered in this one
abbrev pub EntersAll : Filed → FileId → Filed → Type 0
EntersAll old dir new = (found : List LostFile) × IsFound old dir found new

-- the directory does not take one of them
abbrev pub EntersNot : Filed → FileId → Type 0
EntersNot old dir = (left : Filed) × IsLeftFor (IsNotFound old dir left)

-- they are entered in the specified directory
abbrev pub EntersLost : List ℕ → Bor (List ℕ) → Filed → Filed → Type 0
EntersLost stamp into old new = (mid : Filed) × (dir : FileId) × HasDirectory stamp into old mid dir × EntersAll mid dir new

-- the directory for them does not exist, and mkdir does not make it, also while the master directory denies nothing
abbrev pub IsNoDirectoryMade : List ℕ → Bor (List ℕ) → Filed → Type 0
IsNoDirectoryMade stamp into old = (master : FileId) × (bare : Filed) × (master.number ≡ 4) × IsBare old master bare
    × ((left : Filed) × (failure : Failure) × (failure.why ≢ no_memory) × AreNotMade None 0 stamp (into ∷ []) bare left failure)

-- why they are not entered: their directory is not made, or it does not take one of them
abbrev pub EntersNone : List ℕ → Bor (List ℕ) → Filed → Type 0
EntersNone stamp into old = IsNoDirectoryMade stamp into old ⊎ ((mid : Filed) × (dir : FileId) × HasDirectory stamp into old mid dir × EntersNot mid dir)

-- they are entered; or one is refused, and nothing is done
abbrev pub LeavesEntered : List ℕ → Bor (List ℕ) → Filed → Filed → Type 0
LeavesEntered stamp into old new = EntersLost stamp into old new ⊎ ((new ≡ old) × EntersNone stamp into old)

-- what `lost` leaves: there is no such file, and nothing is done; or they are entered, or refused
abbrev pub LeavesLost : Bool → List ℕ → Bor (List ℕ) → Filed → Filed → Type 0
LeavesLost false stamp into old new = new ≡ old
LeavesLost true stamp into old new = ((new ≡ old) × HasNoLost old) ⊎ LeavesEntered stamp into old new

-- what `free` leaves: blocks that no file held but that were marked as used are free; or it is refused, and nothing is done
abbrev pub LeavesFree : Bool → Filed → Filed → Type 0
LeavesFree false old new = new ≡ old
LeavesFree true old new = ((told : List Finding) × IsFreed old told new) ⊎ ((new ≡ old) × IsLeftFor (IsNotFreed old))

-- what the repairs of a sound volume leave, in order
abbrev pub LeavesSound : Repairs → List ℕ → Bor (List ℕ) → Filed → Filed → Type 0
LeavesSound kinds stamp into old new = (named : Filed) × (freed : Filed) × LeavesNames kinds.names old named × LeavesFree kinds.free named freed × LeavesLost kinds.lost stamp into freed new

-- one of the requested repairs requires a sound volume
abbrev pub wants_sound : Repairs → Bool
wants_sound kinds = kinds.names || (kinds.lost || kinds.free)

-- the image has no layout for this fault: the image is refused, or out of memory
abbrev pub IsNotLaidOut : Bor (List ℕ) → MountFault → Stop → Type 0
IsNotLaidOut path faulty.NoMemory s = s ≡ stop.NoMemory
IsNotLaidOut path fault s = s ≡ stop.Image path (image_fault.Volume fault None)

-- the image is sound, and this is what the repairs of a sound volume leave; or a fault of it is known, and nothing is done
abbrev pub LeavesMounted : Repairs → List ℕ → Bor (List ℕ) → List (List ℕ) → List (List ℕ) → Type 0
LeavesMounted kinds stamp into I J =
    ((L : VolumeLayout) × (new : Filed) × IsSoundBy I L × LeavesSound kinds stamp into (record { image = I; layout = L; user = keeper }) new × (J ≡ new.image))
    ⊎ ((J ≡ I) × ((fault : MountFault) × FaultIsTrue I fault))

-- those repairs, if one is requested
abbrev pub LeavesRest : Bool → Repairs → List ℕ → Bor (List ℕ) → List (List ℕ) → List (List ℕ) → Type 0
LeavesRest false kinds stamp into I J = J ≡ I
LeavesRest true kinds stamp into I J = LeavesMounted kinds stamp into I J

-- What `repair` leaves of the blocks of an image.
abbrev pub IsMended : Repairs → List ℕ → Bor (List ℕ) → List (List ℕ) → List (List ℕ) → Type 0
IsMended kinds stamp into I J =
    (G : List (List ℕ)) × (H : List (List ℕ)) × (K : List (List ℕ)) × LeavesUsed kinds.used I G × LeavesShared kinds.share G H × LeavesDouble kinds.double H K × LeavesRest (wants_sound kinds) kinds stamp into K J

-- nothing is reported as left now, and so nothing was before, and this holds
abbrev pub Wholly : Bool → Bool → Type 0 → Type 0
Wholly before now P = now ≡ false → (before ≡ false) × P

-- `used` was made, if it is requested
abbrev pub IsWhollyUsed : Bool → List (List ℕ) → List (List ℕ) → Type 0
IsWhollyUsed false I J = J ≡ I
IsWhollyUsed true I J = IsAllUsed I J

-- so was `share`, of each file that shared blocks with an earlier one
abbrev pub IsWhollyUnshared : Bool → List (List ℕ) → List (List ℕ) → Type 0
IsWhollyUnshared false I J = J ≡ I
IsWhollyUnshared true I J = IsAllUnshared I J

-- so was `double`, in each directory that had two equal names
abbrev pub IsWhollyRenumbered : Bool → List (List ℕ) → List (List ℕ) → Type 0
IsWhollyRenumbered false I J = J ≡ I
IsWhollyRenumbered true I J = IsAllRenumbered I J

-- no file is lost any more, if `lost` is requested
abbrev pub LosesNone : Bool → Filed → Type 0
LosesNone false volume = Unit {0}
LosesNone true volume = HasNoLost volume

-- `free` was made, if it is requested
abbrev pub IsWhollyFreed : Bool → Filed → Filed → Type 0
IsWhollyFreed false old new = new ≡ old
IsWhollyFreed true old new = (told : List Finding) × IsFreed old told new

-- the requested repairs of a sound volume were made
abbrev pub IsSoundWhollyMended : Repairs → List ℕ → Bor (List ℕ) → Filed → Filed → Type 0
IsSoundWhollyMended kinds stamp into old new =
    (named : Filed) × (freed : Filed) × LeavesNames kinds.names old named × IsWhollyFreed kinds.free named freed × LeavesLost kinds.lost stamp into freed new × LosesNone kinds.lost new

-- the image is sound, and they were made
abbrev pub IsMountedWhollyMended : Repairs → List ℕ → Bor (List ℕ) → List (List ℕ) → List (List ℕ) → Type 0
IsMountedWhollyMended kinds stamp into I J =
    (L : VolumeLayout) × (new : Filed) × IsSoundBy I L × IsSoundWhollyMended kinds stamp into (record { image = I; layout = L; user = keeper }) new × (J ≡ new.image)

-- the same, if one of them is requested
abbrev pub IsRestWhollyMended : Bool → Repairs → List ℕ → Bor (List ℕ) → List (List ℕ) → List (List ℕ) → Type 0
IsRestWhollyMended false kinds stamp into I J = J ≡ I
IsRestWhollyMended true kinds stamp into I J = IsMountedWhollyMended kinds stamp into I J

-- What `repair` leaves if it reports nothing as left: each requested kind was made, and nothing of it is there any more.
abbrev pub IsWhollyMended : Repairs → List ℕ → Bor (List ℕ) → List (List ℕ) → List (List ℕ) → Type 0
IsWhollyMended kinds stamp into I J =
    (G : List (List ℕ)) × (H : List (List ℕ)) × (K : List (List ℕ)) × IsWhollyUsed kinds.used I G × IsWhollyUnshared kinds.share G H × IsWhollyRenumbered kinds.double H K × IsRestWhollyMended (wants_sound kinds) kinds stamp into K J
