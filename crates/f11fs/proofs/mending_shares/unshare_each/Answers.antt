use Rattle.std.proofs.Common.{refl, subst, sym}
use Rattle.std.proofs.lemmas.List.{drop_all}
use Rattle.ods_repair.specs.Wholly.{AreUnsharedIn}
use Rattle.f11fs.specs.Mended.{LeavesFiles}
use Rattle.f11fs.proofs.Shares.{files_on, unshared_on}
use Rattle.f11fs.proofs.mending_shares.unshare_each.Goals as goal

pub loop-file-init : goal.loop-file-init
loop-file-init c = (c.requires.layout, c.requires.index, λ J rest. rest, λ now. (now, λ J rest. rest))

pub loop-file-preserved : goal.loop-file-preserved
loop-file-preserved c = (
  c.in_ok-image.ensures.layout,
  c.in_ok-image.ensures.index,
  files_on c.args.layout.now c.args.files.now c.loop-file.file-index c.loop-file.image c.in_ok-image.image
      (λ J. LeavesFiles c.args.layout.now c.args.files.now c.args.image J) c.loop-file-test.true c.loop-file.invariant.2 c.in_ok-image.ensures.left,
  λ now.
      let second = c.in_ok-image.ensures.whole now in
      let first = c.loop-file.invariant.3 second.0 in (
        first.0,
        unshared_on c.args.layout.now c.args.files.now c.loop-file.file-index c.loop-file.image c.in_ok-image.image
            (λ J. AreUnsharedIn c.args.layout.now c.args.files.now c.args.image J) c.loop-file-test.true first.1 second.1,
      ),
)

pub returns-clause-leaves : goal.returns-clause-leaves
returns-clause-leaves c =
    c.loop-file.invariant.2 c.loop-file.image
    (subst (λ l. LeavesFiles c.args.layout.now l c.loop-file.image c.loop-file.image) (sym (drop_all c.loop-file.file-index c.args.files.now c.loop-file-test.false)) refl)

pub returns-clause-whole : goal.returns-clause-whole
returns-clause-whole c = λ now.
    let all = c.loop-file.invariant.3 now in (
      all.0,
      all.1 c.loop-file.image
          (subst (λ l. AreUnsharedIn c.args.layout.now l c.loop-file.image c.loop-file.image) (sym (drop_all c.loop-file.file-index c.args.files.now c.loop-file-test.false)) refl),
    )
