use Rattle.std.proofs.Common.{subst}
use Rattle.std.specs.Prelude.{IfOk, IfErr, OnErr, ◌≡◌}
use Rattle.ods_mount.specs.Sound.{IsSoundBy}
use Rattle.ods_space.specs.Layout.{Disk}
use Rattle.ods_state.specs.Served.{IsRefusalOf}
use Rattle.ods_filing.specs.Filed.{Filed, IsDone}
use Rattle.ods_filing.proofs.Done.{are_done, filed, stays_filed}
use Rattle.ods_filing.proofs.filing.Filing.request.Goals as goal

pub returns-clause-accepted : goal.returns-clause-accepted
returns-clause-accepted c =
    let D : Disk = c.self.inside.sound in
    let E : Disk = c.request.new.self in
    let who = c.self.inside.user in
    let sound = subst (λ (d : Disk). IsSoundBy d.image d.layout) (λ i. record { image = c.disk.ensures.image i; layout = c.disk.ensures.layout i }) c.disk.ensures.sound in
    subst (λ f. IfOk c.request.result (λ a. IsDone f c.args.request.now a (filed E who))) c.self.view_is (are_done D E sound who c.args.request.now c.request.result c.request.ensures.accepted)

pub returns-clause-refused : goal.returns-clause-refused
returns-clause-refused c = subst (λ (f : Filed). IfErr c.request.result (IsRefusalOf f.image f.layout f.user c.args.request.now)) c.self.view_is c.request.ensures.refused

pub returns-clause-unchanged : goal.returns-clause-unchanged
returns-clause-unchanged c =
    subst (λ f. OnErr c.request.result (filed c.request.new.self c.self.inside.user ≡ f)) c.self.view_is
    (stays_filed c.self.inside.sound c.request.new.self c.self.inside.user c.request.result c.request.ensures.unchanged)
