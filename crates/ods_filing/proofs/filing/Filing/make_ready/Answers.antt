use Rattle.std.proofs.Common.{◌≡◌, ◌∙◌, ◌-◌, ap, subst}
use Rattle.std.specs.Prelude.{IfErr, OnErr, OnOk}
use Rattle.ods_space.specs.Layout.{Disk}
use Rattle.ods_volume.specs.Changing.{HasMoreHeaders, IsWhyNoMore}
use Rattle.ods_filing.specs.Filed.{Filed, HasGrown, IsWhyNotGrown, lacking}
use Rattle.ods_filing.proofs.Done.{filed, has_grown, stays_filed}
use Rattle.ods_filing.proofs.filing.Filing.make_ready.Goals as goal

pub returns-clause-grown : goal.returns-clause-grown
returns-clause-grown c =
    let D : Disk = c.self.inside.sound in
    let E : Disk = c.grow_index.new.self in
    let who = c.self.inside.user in
    let count = c.saturating_sub-lacking.ensures ∙ ap (λ n. c.args.files - n) c.number_count.ensures in
    subst (λ (f : Filed). OnOk c.grow_index.result (HasGrown f (lacking f c.args.files) (filed E who))) c.self.view_is
    (has_grown D E who (lacking (filed D who) c.args.files) c.grow_index.result (subst (λ n. OnOk c.grow_index.result (HasMoreHeaders D n E)) count c.grow_index.ensures.grown))

pub returns-clause-refused : goal.returns-clause-refused
returns-clause-refused c =
    let D : Disk = c.self.inside.sound in
    let count = c.saturating_sub-lacking.ensures ∙ ap (λ n. c.args.files - n) c.number_count.ensures in
    subst (λ (f : Filed). IfErr c.grow_index.result (IsWhyNotGrown f (lacking f c.args.files))) c.self.view_is
    (subst (λ n. IfErr c.grow_index.result (IsWhyNoMore D n)) count c.grow_index.ensures.refused)

pub returns-clause-unchanged : goal.returns-clause-unchanged
returns-clause-unchanged c =
    subst (λ f. OnErr c.grow_index.result (filed c.grow_index.new.self c.self.inside.user ≡ f)) c.self.view_is
    (stays_filed c.self.inside.sound c.grow_index.new.self c.self.inside.user c.grow_index.result c.grow_index.ensures.unchanged)
