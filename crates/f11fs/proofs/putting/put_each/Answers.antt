use Rattle.std.proofs.Common.{◌≡◌, refl, arith, length, is_some}
use Rattle.f11fs.proofs.PutAll.{put_next, put_whole}
use Rattle.f11fs.proofs.putting.put_each.Goals as goal

pub loop-host-init : goal.loop-host-init
loop-host-init g c = (omega arith, c.requires, (refl, refl))

pub loop-host-preserved : goal.loop-host-preserved
loop-host-preserved g c = (
  omega (arith, c.loop-host-test.true),
  c.in_ok-bytes.ensures.taken,
  put_next (g.R.Host.gives c.args.rt.now) (is_some c.args.zone.now) c.args.stamp c.args.putting.now c.loop-host.putting c.set_time.new.self c.put_one.new.putting c.in_ok-time.time c.args.hosts.now c.loop-host.host-index _ _ _
      c.args.filing.now c.loop-host.filing c.put_one.new.filing c.in_ok-bytes.ensures.given c.as_slice.ensures.value c.set_time.ensures c.in_ok-time.ensures.done c.in_ok-put_one.ensures.done c.loop-host-test.true c.loop-host.invariant.2,
)

pub returns-clause-done : goal.returns-clause-done
returns-clause-done g c =
    let end : c.loop-host.host-index ≡ length c.args.hosts.now = omega (arith, c.loop-host.invariant.0, c.loop-host-test.false) in
    put_whole (g.R.Host.gives c.args.rt.now) (is_some c.args.zone.now) c.args.stamp c.args.putting.now c.loop-host.putting c.args.hosts.now c.loop-host.host-index c.args.filing.now c.loop-host.filing end c.loop-host.invariant.2
