use Rattle.std.proofs.Common.{◌∙◌, inl, subst}
use Rattle.ods_mount.specs.Sound.{IsSoundBy}
use Rattle.f11fs.specs.Mended.{IsSoundWhollyMended, LeavesSound}
use Rattle.f11fs.proofs.mending_sound.mend_shared.Goals as goal

pub returns-clause-leaves : goal.returns-clause-leaves
returns-clause-leaves c = inl (
  c.args.volume.layout,
  c.mend_sound.new.filing,
  subst (λ I. IsSoundBy I c.args.volume.layout) c.disk.ensures.image (subst (λ L. IsSoundBy c.disk.result.image.now L) c.disk.ensures.layout c.disk.ensures.sound),
  subst (λ f. LeavesSound c.args.wishes.now.kinds c.args.wishes.now.stamp c.args.wishes.now.into f c.mend_sound.new.filing) c.in_ok-filing.ensures c.in_ok-mend_sound.ensures.leaves,
  c.into_parts-image.ensures.value.0 ∙ c.into_mounted.ensures.0,
)

pub returns-clause-whole : goal.returns-clause-whole
returns-clause-whole c = λ now.
    let all = c.in_ok-mend_sound.ensures.whole now in (
      all.0,
      (
        c.args.volume.layout,
        c.mend_sound.new.filing,
        subst (λ I. IsSoundBy I c.args.volume.layout) c.disk.ensures.image (subst (λ L. IsSoundBy c.disk.result.image.now L) c.disk.ensures.layout c.disk.ensures.sound),
        subst (λ f. IsSoundWhollyMended c.args.wishes.now.kinds c.args.wishes.now.stamp c.args.wishes.now.into f c.mend_sound.new.filing) c.in_ok-filing.ensures all.1,
        c.into_parts-image.ensures.value.0 ∙ c.into_mounted.ensures.0,
      ),
    )
