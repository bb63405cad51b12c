-- When a pick is refused for lack of room, and the refusal.
use Rattle.std.specs.Prelude.{◌≡◌, ℕ, ◌<◌}
use Rattle.ods_alloc.specs.declared.fault.SpaceFault.{SpaceFault}
use Rattle.ods_alloc.specs.declared.fault.SpaceFault.TheVariants.{VolumeFull, HeadersFull, ChainFull, NoMemory}

-- fewer are free than the pick needs, and this is the refusal for it; or memory is refused
abbrev pub IsShort : SpaceFault → ℕ → ℕ → SpaceFault → Type 0
IsShort full free count VolumeFull = (full ≡ VolumeFull) × (free < count)
IsShort full free count HeadersFull = (full ≡ HeadersFull) × (free < count)
IsShort full free count ChainFull = ⊥
IsShort full free count NoMemory = Unit {0}
