use Rattle.std.proofs.Common.{◌≡◌, ◌≤◌, is_some, length, take}
use Rattle.f11fs.specs.Changed.{ArePutNext}
use Rattle.f11fs.specs.Given.{AreTaken}
use Rattle.f11fs.proofs.putting.put_each.Given as goal

-- those before the next one are put
abbrev pub invariant-loop-host : goal.invariant-loop-host
invariant-loop-host g l = (l.host-index ≤ length l.hosts) × AreTaken (g.R.Host.gives l.rt) l.early × ArePutNext (g.R.Host.gives l.rt) (is_some l.zone) l.stamp l.initial.putting (take l.host-index l.hosts) l.initial.filing l.putting l.filing
