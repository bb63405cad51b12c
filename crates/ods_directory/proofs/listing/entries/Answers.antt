use Rattle.std.proofs.Common.{subst}
use Rattle.std.specs.List.Sorted.{IsPermutation}
use Rattle.ods_directory.proofs.LinesOf.{lines_found}
use Rattle.ods_directory.proofs.listing.entries.Goals as goal

pub returns : goal.returns
returns g c =
    let permuted = subst (λ xs. IsPermutation xs c.sort.new.lines.items) c.in_ok-lines.ensures c.sort.ensures.permutation in
    lines_found (g.B.DirBlocks.blocks c.args.blocks.now) c.args.mark c.sort.new.lines.items permuted c.sort.ensures.order c.requires.directory
