use Rattle.std.proofs.Common.{◌≡◌, ◌+◌, fold}
use Rattle.std.specs.List.{range_with_len}
use Rattle.ods_directory.specs.Entry.{entry_in}
use Rattle.ods_directory.proofs.scan.scan_block.Given as goal

abbrev pub invariant-loop-k : goal.invariant-loop-k
invariant-loop-k g l = l.into ≡ fold (λ s k. g.G.Pass.after s (l.first + k) (entry_in l.block k)) l.initial.into (range_with_len 0 l.k)
