use Rattle.std.proofs.Common.{◌≡◌, None, take}
use Rattle.ods_remains.specs.Chains.{named_at}
use Rattle.ods_remains.specs.Deleted.{former}
use Rattle.ods_remains.specs.Shared.{IsSharer}
use Rattle.ods_remains.proofs.shares.Shares.sharer_or_self.Given as goal

abbrev pub invariant-loop-header : goal.invariant-loop-header
invariant-loop-header l =
    let I = l.self.image in
    let L = l.self.layout in
    let named = named_at (former I L) (take l.header-index l.headers) in
    (l.named.items ≡ named) × IsSharer I L l.number named None
