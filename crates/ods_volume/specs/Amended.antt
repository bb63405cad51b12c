-- The changes of a sound volume that no request makes: another owner, protection or characteristics of a file, another label, other bits of the
-- storage bitmap.
use Rattle.std.specs.Prelude.{ℕ, Bool, List, Option}
use Rattle.ods_base.specs.declared.file_id.FileId.{FileId}
use Rattle.ods_base.specs.declared.file_id.Uic.{Uic}
use Rattle.ods_space.specs.Layout.{Disk}
use Rattle.ods_request.specs.declared.refusals.Refusal.{Refusal}
use Rattle.ods_amend.specs.Access.{GivesAll, IsNotGiven, IsNotProtected, Protects}
use Rattle.ods_amend.specs.Bits.{MarksAs}
use Rattle.ods_amend.specs.Label.{Relabels}
use Rattle.ods_volume.specs.Changing.{IsLawfulChange, Parts, changed}

-- The change sets this owner, this protection and these characteristics of a file, each if given, for a user.
pub record IsChangeOfAccess (D : Disk) (who : Uic) (id : FileId) (owner : Option Uic) (protection flags : Option ℕ) (p : Parts) : Type 0 where
  pub given : GivesAll D who id owner protection flags (changed D p)
  pub lawful : IsLawfulChange D p

-- why the user may not, or cannot: the first fault by each catalogue that the blocks show, or out of memory
abbrev pub IsWhyNotGiven : Disk → Uic → FileId → Refusal → Type 0
IsWhyNotGiven D who id f = IsNotGiven D.image D.layout who id f

-- The change sets this protection word of a file, without regard to rights.
pub record IsChangeOfProtection (D : Disk) (id : FileId) (protection : ℕ) (p : Parts) : Type 0 where
  pub set : Protects D id protection (changed D p)
  pub lawful : IsLawfulChange D p

-- why it cannot be set: there is no such file, or memory runs out
abbrev pub IsWhyNotProtected : Disk → FileId → Refusal → Type 0
IsWhyNotProtected D id f = IsNotProtected D.image D.layout id f

-- The change sets this label of the volume.
pub record IsChangeOfLabel (D : Disk) (label : List ℕ) (p : Parts) : Type 0 where
  pub given : Relabels D label (changed D p)
  pub lawful : IsLawfulChange D p

-- The change marks these blocks as free, or as in use, in the storage bitmap.
pub record IsChangeOfMarks (D : Disk) (blocks : List ℕ) (free : Bool) (p : Parts) : Type 0 where
  pub marked : MarksAs D blocks free (changed D p)
  pub lawful : IsLawfulChange D p
