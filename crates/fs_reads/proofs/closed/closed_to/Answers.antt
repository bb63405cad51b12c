use Rattle.std.proofs.Common.{◌≡◌, ◌≤◌, sym, subst, arith}
use Rattle.ods_space.specs.Layout.{last_number}
use Rattle.fs_reads.specs.Denied.{AreClosedTo, IsClosedTo}
use Rattle.fs_reads.proofs.Closing.{closed_all, those_more}
use Rattle.fs_reads.proofs.closed.closed_to.Goals as goal

pub loop-before-preserved : goal.loop-before-preserved
loop-before-preserved c = those_more (IsClosedTo c.args.disk.now.image.now c.args.disk.now.layout.now c.in-Some.user) c.loop-before.before c.loop-before.closed.items c.push_closed.new.closed.items c.loop-before.invariant c.in_ok-push_closed.ensures

pub returns : goal.returns
returns c =
    let bound : c.last_number-before-end.result ≡ last_number c.args.disk.now.layout.now = c.last_number-before-end.ensures in
    let all : last_number c.args.disk.now.layout.now ≤ c.loop-before.before = omega (arith, bound, c.loop-before-test.false) in
    subst (λ u. AreClosedTo c.args.disk.now.image.now c.args.disk.now.layout.now u c.loop-before.closed.items) (sym c.in-Some.is)
    (closed_all c.args.disk.now.image.now c.args.disk.now.layout.now c.in-Some.user c.loop-before.before c.loop-before.closed.items all c.loop-before.invariant)
