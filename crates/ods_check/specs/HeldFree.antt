-- Blocks that files hold, and that the storage bitmap marks free or that other files also hold.
use Rattle.std.specs.Prelude.{◌≢◌, ℕ, List}
use Rattle.ods_space.specs.Layout.{VolumeLayout}
use Rattle.ods_mount.specs.declared.fault.MountFault.TheVariants.{MarkedFree}
use Rattle.ods_mount.specs.Faults.{IsTrueOf}
use Rattle.ods_check.specs.Findings.{HasBlock}

-- a file with a whole chain holds LBN b, and the storage bitmap marks it free
abbrev pub IsHeldFree : List (List ℕ) → VolumeLayout → ℕ → Type 0
IsHeldFree I L b = (n : ℕ) × IsTrueOf I L (MarkedFree n b)

-- file m is not n, has a whole chain, and holds LBN b
abbrev pub HoldsBesides : List (List ℕ) → VolumeLayout → ℕ → ℕ → ℕ → Type 0
HoldsBesides I L n m b = (m ≢ n) × HasBlock I L m b

-- a file other than n holds LBN b
abbrev pub IsHeldBesides : List (List ℕ) → VolumeLayout → ℕ → ℕ → Type 0
IsHeldBesides I L n b = (m : ℕ) × HoldsBesides I L n m b
