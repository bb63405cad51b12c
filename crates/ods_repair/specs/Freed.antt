-- Blocks that are marked used and that no file holds are freed: the result, and the reason for a refusal.
use Rattle.std.specs.Prelude.{◌≡◌, ◌⊎◌, ◌↔◌, ℕ, ◌<◌, true, List, []}
use Rattle.std.specs.List.{Contains}
use Rattle.ods_space.specs.Layout.{VolumeLayout}
use Rattle.ods_check.specs.declared.finding.Finding.{Finding}
use Rattle.ods_check.specs.Findings.{IsFound, IsHeldByNone, IsLostHeader, LacksHeader, id_at, run_of, unheld_line}
use Rattle.ods_check.specs.Runs.{AddsRuns}
use Rattle.ods_filing.specs.Contiguous.{HasMarked}
use Rattle.ods_filing.specs.Filed.{Filed}
use Rattle.ods_repair.specs.declared.fault.RepairFault.{RepairFault}
use Rattle.ods_repair.specs.declared.fault.RepairFault.TheVariants.{NoHeader, Unreached, NoMemory}

-- Each number in use has a valid header, and a file reaches each valid extension header. So the held blocks are known.
pub record AreKnown (I : List (List ℕ)) (L : VolumeLayout) : Type 0 where
  pub headers : (n : ℕ) → n < 65536 → ¬ LacksHeader I L n
  pub reached : (n : ℕ) → ¬ IsLostHeader I L n

-- the reason why they are unknown: a number in use has no valid header, or no file reaches an extension header
abbrev pub IsUnknown : List (List ℕ) → VolumeLayout → RepairFault → Type 0
IsUnknown I L (NoHeader n) = LacksHeader I L n
IsUnknown I L (Unreached id) = IsLostHeader I L id.number × (id ≡ id_at I L id.number)
IsUnknown I L other = ⊥

-- The blocks that were marked used and that no file held are free, and nothing else was done. Their runs are returned.
pub record IsFreed (old : Filed) (told : List Finding) (new : Filed) : Type 0 where
  -- if there is such a block, the held blocks are known
  pub known : (b : ℕ) → IsHeldByNone old.image old.layout b → AreKnown old.image old.layout
  pub blocks : List ℕ
  pub exactly : (b : ℕ) → Contains blocks b ↔ IsHeldByNone old.image old.layout b
  pub marked : HasMarked old blocks true new
  pub runs : (most : ℕ) × AddsRuns (IsHeldByNone old.image old.layout) unheld_line ([], most) (told, most)
  -- none is left, and all other findings are as before
  pub none : (b : ℕ) → ¬ IsHeldByNone new.image new.layout b
  pub findings : (finding : Finding) → run_of finding ≡ [] → IsFound old.image old.layout finding ↔ IsFound new.image new.layout finding

-- the reason why they are not freed: there are such blocks, and the held blocks are unknown; or memory runs out
abbrev pub IsNotFreed : Filed → RepairFault → Type 0
IsNotFreed old why = (why ≡ NoMemory) ⊎ (((b : ℕ) × IsHeldByNone old.image old.layout b) × IsUnknown old.image old.layout why)
