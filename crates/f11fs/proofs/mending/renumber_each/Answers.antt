use Rattle.std.proofs.Common.{refl, subst, sym}
use Rattle.std.proofs.lemmas.List.{drop_all}
use Rattle.ods_repair.specs.Wholly.{AreRenumberedIn}
use Rattle.f11fs.specs.Mended.{LeavesDirectories}
use Rattle.f11fs.proofs.MoreVersions.{directories_on}
use Rattle.f11fs.proofs.Whole.{renumbered_on}
use Rattle.f11fs.proofs.mending.renumber_each.Goals as goal

pub loop-directory-init : goal.loop-directory-init
loop-directory-init c = (c.requires, λ J rest. rest, λ now. (now, λ J rest. rest))

pub loop-directory-preserved : goal.loop-directory-preserved
loop-directory-preserved c = (
  c.in_ok-image.ensures.layout,
  directories_on c.args.layout.now c.args.directories.now c.loop-directory.directory-index c.loop-directory.image c.in_ok-image.image
      (λ J. LeavesDirectories c.args.layout.now c.args.directories.now c.args.image J) c.loop-directory-test.true c.loop-directory.invariant.1 c.in_ok-image.ensures.left,
  λ now.
      let second = c.in_ok-image.ensures.whole now in
      let first = c.loop-directory.invariant.2 second.0 in (
        first.0,
        renumbered_on c.args.layout.now c.args.directories.now c.loop-directory.directory-index c.loop-directory.image c.in_ok-image.image
            (λ J. AreRenumberedIn c.args.layout.now c.args.directories.now c.args.image J) c.loop-directory-test.true first.1 second.1,
      ),
)

pub returns-clause-leaves : goal.returns-clause-leaves
returns-clause-leaves c =
    c.loop-directory.invariant.1 c.loop-directory.image
    (subst (λ l. LeavesDirectories c.args.layout.now l c.loop-directory.image c.loop-directory.image) (sym (drop_all c.loop-directory.directory-index c.args.directories.now c.loop-directory-test.false)) refl)

pub returns-clause-whole : goal.returns-clause-whole
returns-clause-whole c = λ now.
    let all = c.loop-directory.invariant.2 now in (
      all.0,
      all.1 c.loop-directory.image
          (subst (λ l. AreRenumberedIn c.args.layout.now l c.loop-directory.image c.loop-directory.image) (sym (drop_all c.loop-directory.directory-index c.args.directories.now c.loop-directory-test.false)) refl),
    )
