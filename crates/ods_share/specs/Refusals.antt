-- The number and the name of each fault of this crate, as they are printed.
use Rattle.std.specs.Prelude.{ℕ, List, codes}
use Rattle.ods_share.specs.declared.faults.RunFault.{RunFault}
use Rattle.ods_share.specs.declared.faults.RunFault.TheVariants as run
use Rattle.ods_share.specs.declared.faults.SettleFault.{SettleFault}
use Rattle.ods_share.specs.declared.faults.SettleFault.TheVariants as settle

-- the row of a fault of a run
abbrev pub run_row : RunFault → ℕ × List ℕ
run_row run.NoMemory = (49, codes "NoMemory")
run_row run.NoThread = (62, codes "NoThread")

-- the row of a fault of a settlement
abbrev pub settle_row : SettleFault → ℕ × List ℕ
settle_row settle.Unmatched = (60, codes "Unmatched")
settle_row settle.NoMemory = (49, codes "NoMemory")
