-- What a file keeps of the file that it replaces: its characteristics, its owner as far as the user may give it, and its protection.
use Rattle.std.specs.Prelude.{◌≡◌, ◌⊎◌, ◌+◌, ◌%◌, ℕ, nat_le, if◌then◌else◌, Option, Some, None}
use Rattle.ods_base.specs.declared.file_id.FileId.{FileId}
use Rattle.ods_base.specs.declared.file_id.Uic.{Uic}
use Rattle.ods_request.specs.declared.answers.Stat.{Stat as Shown}
use Rattle.ods_request.specs.declared.refusals.Refusal.{Refusal}
use Rattle.ods_amend.specs.Access.{may_give}
use Rattle.ods_filing.specs.Amended.{HasGiven, IsWhyNotGiven}
use Rattle.ods_filing.specs.Contiguous.{HasCharacterised, contiguous_char}
use Rattle.ods_filing.specs.Filed.{Filed}
use Rattle.ods_upkeep.specs.declared.asked.Placing.{Placing}
use Rattle.ods_upkeep.specs.declared.asked.Placing.TheVariants.{Anywhere, InOnePiece}
use Rattle.ods_upkeep.specs.declared.failure.Why.{Why}
use Rattle.ods_upkeep.specs.declared.failure.Why.TheVariants.{Request}

-- where its blocks are allocated: as specified; otherwise in one piece if the replaced file is contiguous
abbrev pub placing_kept : Option Placing → Option Shown → Placing
placing_kept (Some said) held = said
placing_kept None None = Anywhere
placing_kept None (Some shown) = if nat_le 128 shown.user_char then InOnePiece else Anywhere

-- its characteristics with this number of blocks: those of the replaced file, but contiguous only if it has blocks, and they are in one piece
abbrev pub flags_kept : Placing → ℕ → Shown → ℕ
flags_kept Anywhere count shown = shown.user_char % 128
flags_kept InOnePiece count shown = shown.user_char % 128 + contiguous_char count

-- the owner that it receives from this user: that of the replaced file, if no owner is given and the user may give it
abbrev pub owner_kept : Option Uic → Uic → Shown → Option Uic
owner_kept (Some said) user shown = None
owner_kept None user shown = if may_give user shown.owner then Some shown.owner else None

-- The user has given a file with this number of blocks what it keeps, if it replaces one: first its characteristics, then its owner and its
-- protection. Nothing else was done.
abbrev pub KeepsAccess : Option Uic → Placing → ℕ → Option Shown → FileId → Filed → Filed → Type 0
KeepsAccess said placing count None file old new = new ≡ old
KeepsAccess said placing count (Some shown) file old new =
    (mid : Filed) × HasCharacterised old file (flags_kept placing count shown) mid × HasGiven mid file (owner_kept said old.user shown) (Some shown.protection) new

-- why the user does not, and what was done: he may not, or out of memory, at first or after the characteristics
abbrev pub KeepsNoAccess : Placing → ℕ → Option Shown → FileId → Filed → Filed → Why → Type 0
KeepsNoAccess placing count None file old new why = ⊥
KeepsNoAccess placing count (Some shown) file old new why =
    (reason : Refusal) × (why ≡ Request reason) × (((new ≡ old) × IsWhyNotGiven old file reason) ⊎ (HasCharacterised old file (flags_kept placing count shown) new × IsWhyNotGiven new file reason))
