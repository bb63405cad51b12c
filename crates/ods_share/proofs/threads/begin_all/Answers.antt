use Rattle.std.proofs.Common.{[], ◌∙◌, arith}
use Rattle.ods_views.specs.Viewers.{newly}
use Rattle.ods_share.proofs.Handles.{next_of, one_at_most, one_longer, tied_snoc}
use Rattle.ods_share.proofs.threads.begin_all.Goals as goal

pub loop-script-preserved : goal.loop-script-preserved
loop-script-preserved g c =
    let inv = c.loop-script.invariant in
    let items = c.push_reserved.ensures.items in
    let len = c.push_reserved.ensures.len in
    let h = c.in_ok-handle.handle in
    let few = one_at_most c.next.result in
    let i = c.loop-script.script-index in
    let viewers = c.args.viewers.items in
    let next = next_of viewers i c.next.result c.unwrap.result (newly []) _ _ (omega (arith, c.args.viewers.ok.0, c.requires.enough)) inv.5 c.next.ensures.items c.unwrap.ensures in (
      omega arith,
      omega arith,
      omega (arith, one_longer c.loop-script.handles.items c.push_reserved.new.self.items h items),
      λ k d s lt.
          tied_snoc c.args.scripts.now c.args.stamp.now viewers c.loop-script.handles.items c.push_reserved.new.self.items h i c.script-item.result
          items inv.2 (omega arith) c.script-item.is (c.in_ok-handle.ensures.ok.0, c.in_ok-handle.ensures.ok.1, c.in_ok-handle.ensures.ok.2 ∙ next.0)
          (λ j e t below. inv.3 j e t (omega arith)) k d s (omega arith),
      omega (arith, few, c.next.ensures.len, inv.4),
      next.1,
      omega (arith, inv.6, c.split_off.ensures.parts_left),
      omega (arith, inv.7, c.split_off.ensures.amount_left),
      omega (arith, inv.8, c.push_reserved.ensures.capacity),
    )
