use Rattle.std.proofs.Common.{inl, inr, subst}
use Rattle.jiff.specs.ZoneView.{plain_zone}
use Rattle.jiff_tz.specs.Ambiguous.{IsInstantAt, compatible_offset}
use Rattle.jiff_tz.specs.Zone.{ambiguous_at}
use Rattle.fs_host.proofs.host_zone.HostZone.second_at.Goals as goal

pub returns-in-Ok : goal.returns-in-Ok
returns-in-Ok c =
    let time = c.in-Some.time in
    let zone = plain_zone c.zone.result in
    let at = subst (IsInstantAt time (compatible_offset (ambiguous_at zone time))) c.in-Ok.is c.to_timestamp.ensures in
    elim c.second_of.ensures [ inl none ↦ inl none | inr second ↦ inr (time, c.in-Some.ensures, (zone, c.in-Ok.instant, at, second)) ]
