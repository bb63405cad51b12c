use Rattle.std.proofs.Common.{◌∙◌, ◌+◌, ◌<◌, length, ap, sym, subst, arith}
use Rattle.std.proofs.lemmas.List.{length_push}
use Rattle.ods_base.specs.Overlay.{HasReached}
use Rattle.ods_base.proofs.Overlays.{reached_more}
use Rattle.ods_base.proofs.seats.reach.Goals as goal

pub loop-k-preserved : goal.loop-k-preserved
loop-k-preserved c =
    let items = c.push_reserved.ensures.items in
    let size = c.loop-k.invariant.1 in
    let below : length c.loop-k.seats.items < c.args.at + 1 = omega (arith, size, c.loop-k-test.true) in (
      subst (HasReached (c.args.at + 1) c.args.seats.now.items) (sym items) (reached_more (c.args.at + 1) c.args.seats.now.items c.loop-k.seats.items below c.loop-k.invariant.0),
      ap length items ∙ length_push c.loop-k.seats.items 0 ∙ ap (λ n. n + 1) size,
      c.push_reserved.ensures.capacity ∙ c.loop-k.invariant.2,
    )
