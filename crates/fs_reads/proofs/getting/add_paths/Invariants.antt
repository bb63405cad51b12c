-- The files of the paths so far are among those that were added, where nothing was wrong.
use Rattle.std.proofs.Common.{◌≡◌, true, take}
use Rattle.std.specs.List.{All}
use Rattle.ods_shell.specs.declared.status.Status.TheVariants as status
use Rattle.fs_reads.specs.Ends.{may_name}
use Rattle.fs_reads.specs.Gets.{IsAmong}
use Rattle.fs_reads.proofs.getting.add_paths.Given as goal

abbrev pub invariant-loop-path : goal.invariant-loop-path
invariant-loop-path g l = record {
  may : may_name l.status ≡ true;
  done : l.status ≡ status.Done → All (λ path. IsAmong l.disk.image.now l.disk.layout.now l.user l.closed l.all.items path.now) (take l.path-index l.paths);
}
