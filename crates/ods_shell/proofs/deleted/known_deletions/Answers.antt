use Rattle.std.proofs.Common.{arith}
use Rattle.ods_paths.specs.Views.{said_files}
use Rattle.ods_shell.specs.Deleted.{IsDeletion, IsSoughtFile}
use Rattle.ods_shell.proofs.SoughtFiles.{known_next}
use Rattle.ods_shell.proofs.deleted.known_deletions.Goals as goal

pub loop-before-preserved : goal.loop-before-preserved
loop-before-preserved c =
    let D = c.args.disk.now in
    let bound = c.last_number-before-end.ensures in
    let less = c.loop-before-test.true in (
      known_next (IsSoughtFile D.image.now D.layout.now (said_files c.args.files.now)) (IsDeletion D.image.now D.layout.now) c.loop-before.before c.loop-before.all.items c.add_sought.new.all.items
          c.in_ok-add_sought.ensures c.loop-before.invariant.0,
      omega (arith, bound, less),
    )
