-- The end of a saving that fails by the host or by the bytes that are read back.
use Rattle.std.specs.Prelude.{⊤, ◌⊎◌}
use Rattle.fs_saving.specs.declared.unsaved.Unsaved.{Unsaved}
use Rattle.fs_saving.specs.declared.unsaved.Unsaved.TheVariants.{Make, Write, Differs, Rename}

-- the host was not called to rename
abbrev pub IsEarly : {E : Type 0} → Unsaved E → Type 0
IsEarly (Make fault) = ⊤
IsEarly (Write fault) = ⊤
IsEarly Differs = ⊤
IsEarly (Rename fault) = ⊥

-- After this end the name keeps its content. If the host failed at the renaming, it has that content or the new bytes.
abbrev pub IsLeft : {E : Type 0} → Unsaved E → Type 0 → Type 0 → Type 0
IsLeft (Make fault) stays new = stays
IsLeft (Write fault) stays new = stays
IsLeft Differs stays new = stays
IsLeft (Rename fault) stays new = stays ⊎ new

-- a hidden file that was made is gone, or could not be removed
abbrev pub IsCleared : {E : Type 0} → Type 0 → Type 0 → Unsaved E → Type 0
IsCleared gone left (Make fault) = ⊤
IsCleared gone left (Write fault) = gone ⊎ left
IsCleared gone left Differs = gone ⊎ left
IsCleared gone left (Rename fault) = gone ⊎ left

-- the fault of the host at this end, if there is one, may occur
abbrev pub MayCome : {E : Type 0} → (E → Type 0) → Unsaved E → Type 0
MayCome may_end (Make fault) = may_end fault
MayCome may_end (Write fault) = may_end fault
MayCome may_end Differs = ⊤
MayCome may_end (Rename fault) = may_end fault
