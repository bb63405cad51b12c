use Rattle.std.proofs.Common.{◌≡◌, ◌-◌, ◌<◌, length, arith}
use Rattle.std.proofs.lemmas.List.Elements.{Contains-get_or}
use Rattle.f11fs.proofs.Shares.{none_behind, shared_on, sharing_all, sharing_on}
use Rattle.f11fs.proofs.mending_shares.sharing_files.Goals as goal

pub loop-k-init : goal.loop-k-init
loop-k-init c = (c.in_ok-files.ensures, λ now. (now, λ j n line from at tells. none_behind c.args.lines.now c.in_ok-files.files.items j n line from at tells))

pub loop-k-preserved : goal.loop-k-preserved
loop-k-preserved c =
    let low = c.loop-k-test.true in
    let at : length c.args.lines.now - 1 - c.loop-k.k < length c.args.lines.now = omega (arith, low) in (
      shared_on c.args.lines.now _ c.loop-k.files.items c.push_sharing.new.files.items c.loop-k.invariant.0
          (Contains-get_or c.args.lines.now (length c.args.lines.now - 1 - c.loop-k.k) _ at) c.in_ok-push_sharing.ensures.adds,
      λ now.
          let second = c.in_ok-push_sharing.ensures.whole now in
          let first = c.loop-k.invariant.1 second.0 in
          (first.0, sharing_on c.args.lines.now c.loop-k.k _ c.loop-k.files.items c.push_sharing.new.files.items low first.1 c.in_ok-push_sharing.ensures.adds second.1),
    )

pub returns-clause-whole : goal.returns-clause-whole
returns-clause-whole c = λ now.
    let all = c.loop-k.invariant.1 now in
    let over = c.loop-k-test.false in
    let first : length c.args.lines.now - c.loop-k.k ≡ 0 = omega (arith, over) in
    (all.0, sharing_all c.args.lines.now (length c.args.lines.now - c.loop-k.k) c.loop-k.files.items first all.1)
