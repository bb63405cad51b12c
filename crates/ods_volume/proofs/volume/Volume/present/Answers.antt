use Rattle.std.proofs.Common.{subst}
use Rattle.ods_request.specs.Catalogue.{Catalogue}
use Rattle.ods_state.specs.Version.{State, IsPresent}
use Rattle.ods_volume.proofs.volume.Volume.present.Goals as goal

pub returns : goal.returns
returns c =
    let version = c.self.invariant.lawful.version in
    subst (λ (v : State). (C : Catalogue) × IsPresent v C) c.self.view_is (version.catalogue, version.replayed)
