-- The stamp of the local time at a second.
use Rattle.std.proofs.Common.{ap, ◌∙◌, ◌<◌, ◌^◌, arith, w64}
use Rattle.std.proofs.Math.Facts.{to_z_pos}
use Rattle.std.specs.Prelude.{◌≡◌, ℕ, pos, List, Option, Some, None, IfSome}
use Rattle.jiff_core.specs.Timestamp.{nanos_of_seconds}
use Rattle.jiff_core.specs.declared.civil.datetime.DateTime.{DateTime}
use Rattle.jiff_core.specs.declared.timestamp.Timestamp.{Timestamp}
use Rattle.fs_host.specs.Times.{IsLocal, IsStampAt, IsStampOf}
use Rattle.fs_host.proofs.host_zone.HostZone.stamp_at.Goals as goal

-- what is the stamp of the local time at an instant is that at its second
stamp_then : (r : Option (List ℕ)) (second : ℕ) (instant : Timestamp) (time : DateTime) → instant.nanosecond ≡ nanos_of_seconds (pos second) → IsLocal instant time → IfSome r (IsStampOf time)
    → IfSome r (IsStampAt second)
stamp_then None second instant time at here stamped = tt
stamp_then (Some stamp) second instant time at here stamped = (instant, at, (time, here, stamped))

pub returns : goal.returns
returns c =
    let small : c.args.second < 2 ^ 63 = omega (arith, c.ranges.second.fits) in
    stamp_then c.stamp_of.result c.args.second c.in-Ok.instant c.local.result (c.in-Ok.ensures.value ∙ ap (λ s. nanos_of_seconds s) (to_z_pos w64 small)) c.local.ensures c.stamp_of.ensures
