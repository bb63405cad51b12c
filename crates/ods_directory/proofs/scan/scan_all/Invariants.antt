use Rattle.std.proofs.Common.{◌≡◌, ◌*◌, ◌/◌, min, drop, fold}
use Rattle.std.specs.List.{range_with_len}
use Rattle.ods_directory.specs.Entry.{entry_at}
use Rattle.ods_directory.proofs.scan.scan_all.Given as goal

abbrev pub invariant-loop-i : goal.invariant-loop-i
invariant-loop-i g l =
    (l.into ≡ fold (λ s k. g.G.Pass.after s k (entry_at (g.B.DirBlocks.blocks l.blocks) k)) l.initial.into (range_with_len 0 (min (32 * l.i) (l.mark / 16))))
    × g.B.DirBlocks.leads l.blocks l.cursor (drop l.i (g.B.DirBlocks.blocks l.blocks))
