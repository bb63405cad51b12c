-- The files of the IDs so far are got, where nothing was wrong.
use Rattle.std.proofs.Common.{◌≡◌, true, take}
use Rattle.ods_space.specs.Disks.{on}
use Rattle.ods_shell.specs.Former.{IsUndeleted}
use Rattle.ods_shell.specs.declared.status.Status.TheVariants as status
use Rattle.fs_reads.specs.Ends.{may_name}
use Rattle.fs_reads.specs.Targets.{IsWritten, StayTaken}
use Rattle.fs_reads.specs.Undeleted.{AreIdsGot}
use Rattle.fs_reads.proofs.getting_deleted.get_all.Given as goal

abbrev pub invariant-loop-path : goal.invariant-loop-path
invariant-loop-path g l = record {
  may : may_name l.status ≡ true;
  done : l.status ≡ status.Done
      → on AreIdsGot l.disk l.how.reader.user (IsWritten l.how.only_tells (g.T.Targets.took l.targets) (λ id. on IsUndeleted l.disk id l.how.wanted l.partial)) (take l.path-index l.paths);
  stay : StayTaken (g.T.Targets.took l.initial.targets) (g.T.Targets.took l.targets);
}
