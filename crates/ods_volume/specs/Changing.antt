-- The change of a sound volume without a list by a request.
use Rattle.std.specs.Prelude.{◌≡◌, ℕ, true, List, Option}
use Rattle.ods_base.specs.declared.file_id.Uic.{Uic}
use Rattle.ods_space.specs.Draft.{Changes, applied}
use Rattle.ods_space.specs.Layout.{Disk, with_places}
use Rattle.ods_alloc.specs.Counts.{Counts, AreCountsAfter, counts_of}
use Rattle.ods_mount.specs.Sound.{IsSoundBy}
use Rattle.ods_request.specs.declared.requests.Request.{Request}
use Rattle.ods_request.specs.declared.answers.Answer.{Answer}
use Rattle.ods_request.specs.declared.refusals.Refusal.{Refusal}
use Rattle.ods_state.specs.declared.known_end.KnownEnd.{KnownEnd}
use Rattle.ods_state.specs.declared.known_names.KnownNames.{KnownNames}
use Rattle.ods_state.specs.Ends.{IsEndKnown, IsKnownIn}
use Rattle.ods_state.specs.Noted.{MayBeKnown}
use Rattle.ods_state.specs.Served.{IsStepOf}
use Rattle.ods_volume.specs.declared.ends.Falls.{Falls}
use Rattle.ods_volume.specs.Ends.{AreKnownIn, falls_for, stays}
use Rattle.ods_volume.specs.Struck.{Strikes}
use Rattle.ods_change.specs.IndexGrown.{IsIndexGrown, IsWhyNoHeaders}

-- the volume is sound, these are its counts, and the notes of ends of chains and of the names of a directory are true
pub record IsNoted (D : Disk) (counts : Counts) (ends : List (Option KnownEnd)) (names : Option KnownNames) : Type 0 where
  pub sound : IsSoundBy D.image D.layout
  pub counted : counts ≡ counts_of D.image D.layout
  pub ended : AreKnownIn D.image D.layout ends
  pub named : MayBeKnown D.image D.layout names

-- The parts of a change: the blocks that it writes, the LBNs that INDEXF.SYS gains, and the new counts of the bitmaps if they change. It has the end
-- of the chain of its file, if known, and the notes that it invalidates.
pub record Parts : Type 0 where
  pub changes : Changes
  pub places : List ℕ
  pub counts : Option Counts
  pub end : Option KnownEnd
  pub falls : Falls

-- the volume with the change made
abbrev pub changed : Disk → Parts → Disk
changed D p = record { image = applied D.image p.changes; layout = with_places D.layout p.places }

-- E is the volume D after a request with this answer
abbrev pub IsStep : Disk → Uic → Request → Answer → Disk → Type 0
IsStep D who r a E = IsStepOf D.image D.layout who r a E.image E.layout

-- The change leaves a sound volume, and its counts and its end of a chain are true of that volume. The notes that stay are still true, and the files
-- keep their blocks as `Strikes` states.
pub record IsLawfulChange (D : Disk) (p : Parts) : Type 0 where
  pub sound : IsSoundBy (applied D.image p.changes) (with_places D.layout p.places)
  pub counted : AreCountsAfter D.image (applied D.image p.changes) D.layout p.counts
  pub ended : IsKnownIn (applied D.image p.changes) (with_places D.layout p.places) p.end
  pub kept : (end : KnownEnd) → stays p.falls end.file ≡ true → IsEndKnown D.image D.layout end → IsEndKnown (applied D.image p.changes) (with_places D.layout p.places) end
  pub struck : Strikes D.image D.layout (applied D.image p.changes) (with_places D.layout p.places) p.falls

-- The change is the effect of a request with this answer on the volume.
pub record IsChangeFor (D : Disk) (who : Uic) (r : Request) (a : Answer) (p : Parts) : Type 0 where
  pub step : IsStep D who r a (changed D p)
  pub lawful : IsLawfulChange D p
  pub falls : p.falls ≡ falls_for r a

-- E is the volume D after INDEXF.SYS gained headers for `count` more files, with no other change
abbrev pub HasMoreHeaders : Disk → ℕ → Disk → Type 0
HasMoreHeaders D count E = IsIndexGrown D.image D.layout count E.image E.layout

-- why it cannot have them: out of memory, or not enough blocks or numbers
abbrev pub IsWhyNoMore : Disk → ℕ → Refusal → Type 0
IsWhyNoMore D count f = IsWhyNoHeaders D.image D.layout count f

-- The change has this effect on the volume.
pub record IsChangeOfHeaders (D : Disk) (count : ℕ) (p : Parts) : Type 0 where
  pub grown : HasMoreHeaders D count (changed D p)
  pub lawful : IsLawfulChange D p
