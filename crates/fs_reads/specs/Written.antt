-- How the writing of a file of the host ends.
use Rattle.std.specs.Prelude.{◌≡◌, Bool, true, false}
use Rattle.ods_shell.specs.declared.status.Status.{Status}
use Rattle.ods_shell.specs.declared.status.Status.TheVariants as status
use Rattle.fs_reads.specs.declared.host_files.Written.{Written}
use Rattle.fs_reads.specs.declared.host_files.Written.TheVariants as written

-- the status of a command whose file was written with this result
abbrev pub status_written : Written → Status
status_written written.Done = status.Done
status_written written.IsThere = status.Host
status_written (written.Unmade why) = status.Host
status_written (written.Failed why) = status.Host
