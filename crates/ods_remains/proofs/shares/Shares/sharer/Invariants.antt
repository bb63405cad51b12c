use Rattle.std.proofs.Common.{◌≡◌, ℕ, take}
use Rattle.std.specs.List.{Contains}
use Rattle.ods_remains.specs.Shared.{NamesBlock}
use Rattle.ods_remains.proofs.shares.Shares.sharer.Given as goal

abbrev pub invariant-loop-lbn : goal.invariant-loop-lbn
invariant-loop-lbn l = (m lbn : ℕ) → Contains (take l.lbn-index l.blocks) lbn → NamesBlock l.self.image l.self.layout m lbn → m ≡ l.number
