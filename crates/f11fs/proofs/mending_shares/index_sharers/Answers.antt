use Rattle.std.proofs.Common.{◌≡◌, ◌-◌, ◌<◌, length, arith}
use Rattle.std.proofs.lemmas.List.Elements.{Contains-get_or}
use Rattle.f11fs.proofs.Shares.{shared_on}
use Rattle.f11fs.proofs.mending_shares.index_sharers.Goals as goal

pub loop-k-preserved : goal.loop-k-preserved
loop-k-preserved c =
    let low = c.loop-k-test.true in
    let at : length c.args.lines.now - 1 - c.loop-k.k < length c.args.lines.now = omega (arith, low) in
    shared_on c.args.lines.now _ c.loop-k.files.items c.push_index_sharer.new.files.items c.loop-k.invariant
    (Contains-get_or c.args.lines.now (length c.args.lines.now - 1 - c.loop-k.k) _ at) c.in_ok-push_index_sharer.ensures
