use Rattle.std.proofs.Common.{◌≡◌, length, take}
use Rattle.ods_remains.specs.Chains.{named_at}
use Rattle.ods_remains.specs.Deleted.{counted, former, used_again}
use Rattle.ods_remains.proofs.left.sum_headers.Given as goal

abbrev pub invariant-loop-number : goal.invariant-loop-number
invariant-loop-number l =
    let I = l.fn.disk.image.now in
    let L = l.fn.disk.layout.now in
    let named = named_at (former I L) (take l.number-index l.headers) in
    (l.totals.blocks ≡ counted (length named)) × (l.totals.used ≡ counted (used_again I L named))
