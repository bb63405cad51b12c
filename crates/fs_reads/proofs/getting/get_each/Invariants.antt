-- The files so far are got, where nothing was wrong.
use Rattle.std.proofs.Common.{◌≡◌, true, take}
use Rattle.std.specs.List.{All}
use Rattle.ods_shell.specs.Contents.{IsGot}
use Rattle.ods_shell.specs.declared.status.Status.TheVariants as status
use Rattle.fs_reads.specs.Ends.{may_name}
use Rattle.fs_reads.specs.Gets.{IsGettable}
use Rattle.fs_reads.specs.Targets.{IsWritten, StayTaken}
use Rattle.fs_reads.proofs.getting.get_each.Given as goal

abbrev pub invariant-loop-found : goal.invariant-loop-found
invariant-loop-found g l = record {
  may : may_name l.status ≡ true;
  done : l.status ≡ status.Done
      → All (IsGettable l.how.reader.user (IsWritten l.how.only_tells (g.T.Targets.took l.targets) (λ n. IsGot l.disk.image.now l.disk.layout.now n l.how.wanted))) (take l.found-index l.files);
  stay : StayTaken (g.T.Targets.took l.initial.targets) (g.T.Targets.took l.targets);
}
