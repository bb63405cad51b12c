-- The stamp of a local time.
use Rattle.std.specs.Prelude.{ℕ, pos, ◌≤ℤ◌, List, Option, Some, None, IfSome}
use Rattle.jiff_core.specs.declared.civil.datetime.DateTime.{DateTime}
use Rattle.jiff_core.specs.declared.timestamp.Timestamp.{Timestamp}
use Rattle.fs_host.specs.Times.{IsLocal, IsStampOf, IsStampOfLocal}
use Rattle.fs_host.proofs.local_time.stamp_of_now.Goals as goal

-- what is the stamp of a local time is that of some
stamp_local : (r : Option (List ℕ)) (instant : Timestamp) (time : DateTime) → pos 0 ≤ℤ instant.nanosecond → IsLocal instant time → IfSome r (IsStampOf time) → IfSome r IsStampOfLocal
stamp_local None instant time late here stamped = tt
stamp_local (Some stamp) instant time late here stamped = (instant, late, (time, here, stamped))

pub returns : goal.returns
returns g c = stamp_local c.stamp_of.result c.in-Ok.now c.local.result c.in-Ok.ensures c.local.ensures c.stamp_of.ensures
